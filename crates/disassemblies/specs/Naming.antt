-- Which symbol names an address of a segment.
--
-- A symbol names its exact value only. Among the symbols with one segment and value an external names it, if there is one, and then
-- the first of the table.
use Rattle.std.specs.Prelude.{ℕ, Bool, ◌&&◌, eqb, List, Option, find}
use Rattle.aout_core.specs.WellFormed.{first_of, is_external, masked_type, segment_number}
use Rattle.aout_core.specs.{declared.symbol.Symbol.Symbol, declared.symbol.Segment.Segment}

abbrev pub is_at : Segment → ℕ → Symbol → Bool
is_at segment value s = eqb (masked_type s) (segment_number segment) && eqb s.value value

abbrev pub is_external_at : Segment → ℕ → Symbol → Bool
is_external_at segment value s = is_external s && is_at segment value s

-- the symbol that names a value of a segment
abbrev pub symbol_at : List Symbol → Segment → ℕ → Option Symbol
symbol_at symbols segment value = first_of (find (λ s. is_external_at segment value s) symbols) (find (λ s. is_at segment value s) symbols)
