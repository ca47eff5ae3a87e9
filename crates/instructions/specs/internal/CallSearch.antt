-- The first call of some that a word makes.
use Rattle.std.specs.{Prelude.ℕ, Prelude.eqb, Prelude.Option, Prelude.List, List.find}
use Rattle.instructions.specs.{declared.call_table.CallRow.CallRow, UnixLines.call_word}

abbrev pub call_in : List CallRow → ℕ → Option CallRow
call_in calls w = find (λ c. eqb (call_word c) w) calls
