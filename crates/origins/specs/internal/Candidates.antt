-- Where the data of an object can't be, and which names are one.
use Rattle.std.specs.Prelude.{◌≡◌, ℕ, ◌+◌, Bool, false, cond, List, [], ◌∷◌, length, Some, slice_get, bytes_eq}
use Rattle.aout_core.specs.{declared.reloc.Reloc.Reloc, declared.symbol.Symbol.Symbol, Contents.Contents}
use Rattle.origins.specs.Telling.{AreMovedBelow}

-- the number of the first symbol of a name
abbrev pub first_number : List Symbol → List ℕ → ℕ
first_number [] name = 0
first_number (s ∷ ss) name = cond (bytes_eq s.name name) 0 (1 + first_number ss name)

-- no values move these words to those that are there
abbrev pub IsNowhere : List ℕ → List Reloc → ℕ → List ℕ → Type 0
IsNowhere words relocs first there =
    (firsts : List ℕ) (own : ℕ) (s : ℕ → ℕ) → AreMovedBelow (length words) firsts own words relocs first there s → ⊥

-- where a candidate is false, the object's data is not
pub record AreCandidates (program object : Contents) (candidates : List Bool) : Type 0 where
  pub long : length candidates ≡ length program.data_words + 1
  pub none : (k : ℕ) → slice_get candidates k ≡ Some false → IsNowhere object.data_words object.data_reloc k program.data_words
