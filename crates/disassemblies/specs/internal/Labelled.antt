-- For each word of a text, whether a symbol names it.
use Rattle.std.specs.Prelude.{◌≡◌, ℕ, zero, suc, ◌+◌, ◌<◌, Bool, false, ◌||◌, List, length, get_or}
use Rattle.aout_core.specs.declared.symbol.Symbol.{Symbol}
use Rattle.disassemblies.specs.Listed.{has_label}

-- the marks of so many words
pub record AreLabelled (symbols : List Symbol) (count : ℕ) (labelled : List Bool) : Type 0 where
  pub counted : length labelled ≡ count
  pub each : (i : ℕ) → i < count → get_or labelled i false ≡ has_label symbols i

-- one of so many words from a place on is marked
abbrev pub any_marked : List Bool → ℕ → ℕ → Bool
any_marked marks place zero = false
any_marked marks place (suc n) = get_or marks place false || any_marked marks (place + 1) n
