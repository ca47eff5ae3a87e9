-- Marks of the places that have been found, and of symbols that are used.
use Rattle.std.specs.{Prelude.{◌≡◌, ℕ, ◌<◌, Bool, false, eqb, List, length, get_or}, List.list_any}
use Rattle.aout_core.specs.Contents.{Contents}
use Rattle.checks.specs.{declared.evidence.Evidence.Evidence, Odd.is_used, Reached.is_reached}

-- the places that have been found have marks, and no others
abbrev pub AreMarks : List Bool → List ℕ → Type 0
AreMarks marks found = (i : ℕ) → get_or marks i false ≡ list_any (eqb i) found

-- the places that an evidence shows to be reached have marks, and no others
abbrev pub ShowReached : List Bool → Evidence → Contents → Type 0
ShowReached marks e c = (i : ℕ) → get_or marks i false ≡ is_reached e c i

-- each symbol of a file to which a relocation word refers has a mark, and no other
pub record AreUsed (c : Contents) (used : List Bool) : Type 0 where
  pub counted : length used ≡ length c.symbols
  pub each : (i : ℕ) → i < length c.symbols → get_or used i false ≡ is_used c i
