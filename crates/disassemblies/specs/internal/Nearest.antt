-- The greatest value of a segment's symbols at an address or fewer than so many bytes before it.
use Rattle.std.specs.Prelude.{◌≡◌, ℕ, ◌+◌, ◌<◌, ◌≤◌, List, Option, Some, None, IsSome}
use Rattle.aout_core.specs.{declared.symbol.Symbol.Symbol, declared.symbol.Segment.Segment}
use Rattle.disassemblies.specs.Naming.{symbol_at}

-- no symbol has the value
abbrev pub IsFree : List Symbol → Segment → ℕ → Type 0
IsFree symbols segment v = symbol_at symbols segment v ≡ None

-- a symbol has the value, and none after it up to the address; or no symbol is near
abbrev pub IsNearest : List Symbol → Segment → ℕ → ℕ → Option ℕ → Type 0
IsNearest symbols segment address within None = (w : ℕ) → w ≤ address → address < w + within → IsFree symbols segment w
IsNearest symbols segment address within (Some v) =
    (v ≤ address) × (address < v + within) × IsSome (symbol_at symbols segment v)
    × ((w : ℕ) → v < w → w ≤ address → IsFree symbols segment w)
