-- Symbols in the order of their segments and values.
use Rattle.std.specs.Prelude.{◌≡◌, ℕ, Bool, not, ◌&&◌, ◌||◌, eqb, nat_lt, List}
use Rattle.std.specs.{declared.cmp.Ordering.Ordering, Ordering.nat_cmp, Ordering.ordering_then}
use Rattle.std.specs.{List.list_any, List.Sorted.{IsSortedByKey, IsStableByKey}}
use Rattle.aout_core.specs.{declared.symbol.Symbol.Symbol, declared.symbol.Segment.Segment, WellFormed.{masked_type, segment_number}}

-- the number of a segment, and a value
abbrev pub key : Symbol → ℕ × ℕ
key s = (masked_type s, s.value)

abbrev pub key_cmp : ℕ × ℕ → ℕ × ℕ → Ordering
key_cmp x y = ordering_then (nat_cmp x.0 y.0) (nat_cmp x.1 y.1)

-- a symbol is before a value of a segment
abbrev pub is_before : ℕ → ℕ → Symbol → Bool
is_before number value s = nat_lt (masked_type s) number || (eqb (masked_type s) number && nat_lt s.value value)

-- a symbol of a segment is from one value up to another
abbrev pub is_between : Segment → ℕ → ℕ → Symbol → Bool
is_between segment from to s = not (is_before (segment_number segment) from s) && is_before (segment_number segment) to s

-- these symbols by their keys; those with one key keep their order
pub record AreOrdered (symbols ordered : List Symbol) : Type 0 where
  pub same : (p : Symbol → Bool) → list_any p ordered ≡ list_any p symbols
  pub sorted : IsSortedByKey key key_cmp ordered
  pub stable : IsStableByKey key key_cmp symbols ordered
