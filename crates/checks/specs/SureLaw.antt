-- What holds of the places of a text in which nothing is suspicious for sure.
use Rattle.std.specs.Prelude.{◌≡◌, ℕ, ◌+◌, ◌*◌, ◌/◌, ◌<◌, ◌≤◌, true, false, List, [], ◌∷◌, Bool, length, slice_get, Option, Some, None}
use Rattle.std.specs.List.{AllByRecursion}
use Rattle.aout_core.specs.{declared.reloc.Reloc.Reloc, Contents.Contents, WellFormed.is_pc_relative}
use Rattle.instructions.specs.{declared.mode.Addressing.Addressing, declared.operand.Operand.Operand}
use Rattle.instructions.specs.{declared.unix.Decoder.TheVariants.Unix, declared.unix.UnixLine.UnixLine}
use Rattle.instructions.specs.{Relocated.is_relocated, UnixLines.unix_length}
use Rattle.instructions.specs.{declared.operand.Operand.TheVariants.General, declared.line.Line.TheVariants.{Decoded, Plain}}
use Rattle.instructions.specs.{declared.unix.UnixLine.TheVariants.Machine, Modes.{addressing, counts_from_pc}, Instructions.word_count_of}
use Rattle.disassemblies.specs.Lines.{unix_line_in}
use Rattle.checks.specs.Found.{Found}
use Rattle.checks.specs.{declared.evidence.Evidence.Evidence, declared.evidence.Evidence.TheVariants.Promise, Reached.branch_of}
use Rattle.checks.specs.{ReachedLaw.IsReached, Trust.is_sure, Suspicions.{is_immediate, suspicions}}

-- none of these is sure
abbrev pub NoneIsSure : List Found → Type 0
NoneIsSure found = AllByRecursion (λ f. f.is_sure ≡ false) found

-- the targets of the branch that a line at a place is
abbrev pub targets : ℕ → UnixLine → List (Option ℕ)
targets place (Machine (Decoded i a b)) = branch_of (2 * place) i.first ∷ branch_of (2 * place) i.second ∷ []
targets place line = []

-- a target is in the text or at its end. If all of the text is instructions, each one before it ends before it
abbrev pub IsInside : Evidence → Contents → Option ℕ → Type 0
IsInside e c None = Unit {0}
IsInside e c (Some target) =
    (target ≤ 2 * length c.text_words)
    × (e ≡ Promise → (start : ℕ) → IsReached Promise c start → start < target / 2 →
    start + unix_length (unix_line_in Unix c start) ≤ target / 2)

abbrev pub AreInside : Evidence → Contents → List (Option ℕ) → Type 0
AreInside e c [] = Unit {0}
AreInside e c (o ∷ os) = IsInside e c o × AreInside e c os

-- a whole instruction or a call
abbrev pub is_whole : UnixLine → Bool
is_whole (Machine (Plain w)) = false
is_whole _ = true

-- it is so at each sure place, and the branches there are inside
abbrev pub SureLaw : Type 0
SureLaw =
    (e : Evidence) (c : Contents) → NoneIsSure (suspicions e c) → (place : ℕ) → is_sure e c place ≡ true →
    (is_whole (unix_line_in Unix c place) ≡ true)
    × AreInside e c (targets place (unix_line_in Unix c place))

-- an operand has no word, or the word at a place. If that is relocated, it has the pc bit if and only if it counts from the pc; nothing
-- is known of the pc bit of `$N`
abbrev pub SuitsMode : Contents → ℕ → Option Operand → Type 0
SuitsMode c place (Some (General m r)) =
    (a : Addressing) (reloc : Reloc) → addressing m r ≡ Some a → slice_get c.text_reloc place ≡ Some reloc →
    is_relocated (Some reloc) ≡ true → is_immediate a ≡ false → is_pc_relative reloc ≡ counts_from_pc a
SuitsMode c place _ = Unit {0}

-- so it is for both operands of the line at a place
abbrev pub SuitsModes : Contents → ℕ → UnixLine → Type 0
SuitsModes c place (Machine (Decoded i a b)) =
    SuitsMode c (place + 1) i.first × SuitsMode c (place + 1 + word_count_of i.first) i.second
SuitsModes c place line = Unit {0}

-- at each sure place the word is not relocated, and the pc bits of relocated operand words suit the modes
abbrev pub SureWordsLaw : Type 0
SureWordsLaw =
    (e : Evidence) (c : Contents) → NoneIsSure (suspicions e c) → (place : ℕ) → is_sure e c place ≡ true →
    (is_relocated (slice_get c.text_reloc place) ≡ false) × SuitsModes c place (unix_line_in Unix c place)
