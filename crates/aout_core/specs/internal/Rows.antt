-- Items of one width in a row, as the bytes encode them, and what was taken of them.
use Rattle.std.specs.Prelude.{◌≡◌, ℕ, zero, suc, ◌*◌, List, [], ◌∷◌, ◌++◌, take, drop, length, slice_index, Option}
use Rattle.aout_core.specs.{declared.reloc.Reloc.Reloc, Words.words_in, internal.Blocks.Awaited, internal.Blocks.Takes}

-- so many items, each of so many bytes
abbrev pub row_in : {A : Type 0} → (List ℕ → A) → ℕ → ℕ → List ℕ → List A
row_in item_in width zero bytes = []
row_in item_in width (suc n) bytes = item_in (take width bytes) ∷ row_in item_in width n (drop width bytes)

abbrev pub word_in : List ℕ → ℕ
word_in bytes = slice_index (words_in bytes) 0

abbrev pub reloc_in : List ℕ → Reloc
reloc_in bytes = record { 0 = word_in bytes }

-- these bytes were taken, and they encode this item
pub record TakesItem {A : Type 0} (item_in : List ℕ → A) (width : ℕ) (old : Awaited) (before : Option (List ℕ))
    (new : Awaited) (after : Option (List ℕ)) (item : A) : Type 0 where
  pub bytes : List ℕ
  pub size : length bytes ≡ width
  pub takes : Takes old before new after bytes
  pub encoded : item ≡ item_in bytes

-- these bytes were taken, and the items that they encode were appended to those that were there
pub record TakesRow {A : Type 0} (item_in : List ℕ → A) (width count : ℕ) (old : Awaited) (before : Option (List ℕ))
    (new : Awaited) (after : Option (List ℕ)) (items more : List A) : Type 0 where
  pub bytes : List ℕ
  pub size : length bytes ≡ width * count
  pub takes : Takes old before new after bytes
  pub encoded : more ≡ items ++ row_in item_in width count bytes
