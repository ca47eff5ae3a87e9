-- How far it is sure that a line is an instruction.
--
-- It is sure if the evidence shows its place. Without the promise that all of the text is instructions it must not overlap another line
-- at such a place: of two such lines one may be data.
use Rattle.std.specs.Prelude.{ℕ, ◌+◌, ◌-◌, Bool, not, ◌&&◌, ◌||◌, is_some, nat_lt, if◌then◌else◌, List, [], ◌∷◌, length, Option, Some, None}
use Rattle.std.specs.List.{list_any}
use Rattle.aout_core.specs.Contents.{Contents}
use Rattle.instructions.specs.{declared.unix.Decoder.TheVariants.Unix, UnixLines.unix_length}
use Rattle.disassemblies.specs.Lines.{unix_line_in}
use Rattle.checks.specs.{declared.evidence.Evidence.Evidence, declared.evidence.Evidence.TheVariants.Names}
use Rattle.checks.specs.{declared.trust.Trust.Trust, Reached.is_promised, Reached.is_reached}

-- the line at a reached place has the word so many words after it
abbrev pub has_word_at : Evidence → Contents → ℕ → ℕ → Bool
has_word_at e c start back = nat_lt start (length c.text_words) && (is_reached e c start && nat_lt back (unix_length (unix_line_in Unix c start)))

abbrev pub enters : Evidence → Contents → ℕ → ℕ → Bool
enters e c place back = not (nat_lt place back) && has_word_at e c (place - back) back

abbrev pub entered_by : Evidence → Contents → ℕ → List ℕ → Option ℕ
entered_by e c place [] = None
entered_by e c place (back ∷ backs) = if enters e c place back then Some (place - back) else entered_by e c place backs

-- the nearest reached place before this one whose line has its word; a line has at most five words
abbrev pub entered : Evidence → Contents → ℕ → Option ℕ
entered e c place = entered_by e c place (1 ∷ 2 ∷ 3 ∷ 4 ∷ [])

-- a line is reached that begins so many words after the one at a place, with a word of it
abbrev pub is_entered : Evidence → Contents → ℕ → ℕ → Bool
is_entered e c place ahead = nat_lt ahead (unix_length (unix_line_in Unix c place)) && is_reached e c (place + ahead)

abbrev pub overlaps : Evidence → Contents → ℕ → Bool
overlaps e c place = is_some (entered e c place) || list_any (is_entered e c place) (1 ∷ 2 ∷ 3 ∷ 4 ∷ [])

abbrev pub is_sure : Evidence → Contents → ℕ → Bool
is_sure e c place = is_reached e c place && (is_promised e || not (overlaps e c place))

abbrev pub trust : Evidence → Contents → ℕ → Trust
trust e c place = record { is_reached = is_reached Names c place || is_sure e c place; is_sure = is_sure e c place }
