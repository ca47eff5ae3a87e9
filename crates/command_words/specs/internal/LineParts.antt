-- What ends a line of a script, and what was taken of it.
use Rattle.std.specs.Prelude.{◌≡◌, ◌↔◌, ℕ, Bool, true, List, [], ◌∷◌, ◌++◌, drop, Option, Some, None, Result, Ok, Err}
use Rattle.std.specs.Io.KnownBytes.{Consumes, IsAtEnd}
use Rattle.command_words.specs.{Scripts.{asked, long_line, many_lines}, ScriptAnswers.{HasNone, TakesLine, GivesNone, FailsInLine}}
use Rattle.command_words.specs.{declared.line_reader.Ending.Ending, declared.line_reader.Stop.Stop}
use Rattle.command_words.specs.declared.line_reader.Ending.TheVariants as endings
use Rattle.command_words.specs.declared.line_reader.Stop.TheVariants as stops

-- a line was read: what ended it, what was left before and after, and its bytes
abbrev pub EndsLine : Ending → Option (List ℕ) → Option (List ℕ) → List ℕ → Type 0
EndsLine endings.Newline old new line = HasNone line × Consumes old new (line ++ 10 ∷ [])
EndsLine endings.End old new line = HasNone line × Consumes old new line × IsAtEnd new
EndsLine endings.Long old new line = (b : ℕ) × HasNone (line ++ b ∷ []) × Consumes old new (line ++ b ∷ [])
EndsLine endings.Failed old new line = HasNone line × Consumes old new line

-- after so many lines these bytes give no further line
abbrev pub IsStopOf : ℕ → List ℕ → List ℕ → Stop → Type 0
IsStopOf n bytes left stops.End = (left ≡ []) × GivesNone n bytes None
IsStopOf n bytes left stops.LongLine = (left ≡ drop 4097 bytes) × GivesNone n bytes (Some long_line)
IsStopOf n bytes left stops.ManyLines = (left ≡ drop 1 bytes) × GivesNone n bytes (Some many_lines)
IsStopOf n bytes left stops.ReadFailed = FailsInLine bytes left
IsStopOf n bytes left (stops.Memory _) = ⊥

-- a line was taken after so many others, the last one or not, or why none was
abbrev pub IsTakenOf : ℕ → List ℕ → List ℕ → List ℕ → Result Bool Stop → Type 0
IsTakenOf n bytes left line (Ok is_last) = TakesLine n bytes left (asked line) × (is_last ≡ true ↔ HasNone bytes)
IsTakenOf n bytes left line (Err stop) = IsStopOf n bytes left stop
