-- The row of the table that a first word is in. (as(1), the handbook of the PDP-11/70)
--
-- A word is in a row if it is the row's base plus what its own bits in the row's fields add. A word is in one row at most (`OneRow`
-- of Laws), so the order of the table does not matter.
use Rattle.std.specs.{Prelude.{ℕ, ◌+◌, ◌*◌, ◌/◌, ◌%◌, Bool, eqb, Option, Some, None}, List.find}
use Rattle.instructions.specs.{declared.field.Field.Field, declared.table.Row.Row, Fields.place, Fields.size, Table.table}

-- what a field adds to the base in a first word
abbrev pub part : Option Field → ℕ → ℕ
part None w = 0
part (Some f) w = w / place f % size f * place f

unfoldable pub begins : Row → ℕ → Bool
begins o w = eqb (o.base + part o.first w + part o.second w) w

unfoldable pub row_of : ℕ → Option Row
row_of w = find (λ o. begins o w) table
