-- What is suspicious of a branch: a target after the text, or within an instruction. (the handbook of the PDP-11/70; what is suspicious:
-- own choice)
--
-- The end of the text counts as inside, since another text may follow it. A target within an instruction is suspicious for sure only if
-- all of the text is instructions.
use Rattle.std.specs.Prelude.{ℕ, ◌+◌, ◌*◌, ◌/◌, true, ◌&&◌, nat_lt, if◌then◌else◌, List, [], length, Option, Some, None}
use Rattle.aout_core.specs.Contents.{Contents}
use Rattle.checks.specs.{declared.trust.Trust.Trust, Reached.is_promised, Trust.entered}
use Rattle.checks.specs.{declared.finding.FindingKind.TheVariants.{BranchOutside, BranchWithin}, Found.{Found, found_as}}
use Rattle.checks.specs.{declared.evidence.Evidence.Evidence, declared.evidence.Evidence.TheVariants.{Names, Promise}}

-- the byte of the file that a word of text has
abbrev pub word_place : ℕ → ℕ
word_place place = 16 + 2 * place

-- the evidence of the lines that a branch may enter, in place of that of the sure places
abbrev pub of_lines : Evidence → Evidence
of_lines Promise = Promise
of_lines _ = Names

-- a target within the line that begins at a place, if it is
abbrev pub suspicious_entry : Evidence → Trust → ℕ → Option ℕ → List Found
suspicious_entry e t place None = []
suspicious_entry e t place (Some start) =
    found_as (t.is_sure && is_promised e) true (word_place place) BranchWithin

-- the branch at a place leads to a target
abbrev pub suspicious_target : Evidence → Contents → Trust → ℕ → ℕ → List Found
suspicious_target e c t place target =
    if nat_lt (2 * length c.text_words) target
    then found_as t.is_sure true (word_place place) BranchOutside
    else suspicious_entry e t place (entered e c (target / 2))

abbrev pub suspicious_branch : Evidence → Contents → Trust → ℕ → Option ℕ → List Found
suspicious_branch e c t place None = []
suspicious_branch e c t place (Some target) = if t.is_reached then suspicious_target e c t place target else []
