-- The words that lead somewhere in the order of keys: all that lead to one symbol have one key.
use Rattle.std.specs.Prelude.{ℕ, ◌+◌, ◌*◌, Bool, eqb, nat_lt, if◌then◌else◌, List, Option, Some, None, slice_get}
use Rattle.std.specs.{Ordering.nat_cmp, List.Sorted.{IsSortedByKey, IsStableByKey}}
use Rattle.aout_core.specs.{declared.symbol.Symbol.Symbol, WellFormed.{masked_type, segment_number}}
use Rattle.link_maps.specs.declared.leads.{Aim.Aim, Aim.TheVariants.{Numbered, Addressed}, Lead.Lead}

-- the number of a segment, and an address
abbrev pub place_key : ℕ → ℕ → ℕ
place_key segment address = 65536 * segment + address

-- the place of a symbol of a segment, and the number of any other
abbrev pub symbol_key : ℕ → Symbol → ℕ
symbol_key number s = if nat_lt (masked_type s) 2 then number else place_key (masked_type s) s.value

abbrev pub numbered_key : ℕ → Option Symbol → ℕ
numbered_key number None = number
numbered_key number (Some s) = symbol_key number s

abbrev pub aim_key : List Symbol → Aim → ℕ
aim_key symbols (Numbered n) = numbered_key n (slice_get symbols n)
aim_key symbols (Addressed segment address) = place_key (segment_number segment) address

abbrev pub key_of : List Symbol → Lead → ℕ
key_of symbols l = aim_key symbols l.aim

abbrev pub has_key : List Symbol → ℕ → Symbol → Lead → Bool
has_key symbols number s l = eqb (key_of symbols l) (symbol_key number s)

-- these words by their keys; those with one key keep their order
pub record AreByKey (symbols : List Symbol) (leads ordered : List Lead) : Type 0 where
  pub sorted : IsSortedByKey (key_of symbols) nat_cmp ordered
  pub stable : IsStableByKey (key_of symbols) nat_cmp leads ordered
