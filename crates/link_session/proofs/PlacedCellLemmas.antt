-- The cells of an object by the places of its symbols: they are those by the names.
use Rattle.std.proofs.Common.{◌≡◌, ℕ, ◌+◌, true, List, [], ◌∷◌, ◌++◌, Option, Some, None, refl, rules}
use Rattle.std.specs.{Prelude.slice_get, Prelude.⊤, List.AllByRecursion}
use Rattle.aout_core.specs.WellFormed.{kind_of, symbol_number, is_wanted, kind_fault, word_fault, first_bad_word, IsWellFormed}
use Rattle.aout_core.specs.{declared.symbol.Symbol.Symbol, declared.reloc.Reloc.Reloc, declared.reloc.Kind.Kind, Contents.Contents}
use Rattle.aout_core.specs.declared.reloc.Kind.TheVariants as kinds
use Rattle.link_session.specs.internal.Additions.{reference, own_cell, own_cells, all_places, placed_reference, placed_cell, placed_cells}
use Rattle.link_session.specs.{declared.relocate.Shifts.Shifts, Image.Named}
use Rattle.link_session.proofs.{WellFormedLemmas.{first_of_none, well_formed_parts}, ListLemmas.all_split, PlacedLemmas.wanted_place}

-- a word of this kind refers to no symbol, or to one that it may refer to
abbrev IsFit : List Symbol → ℕ → Option Kind → Type 0
IsFit symbols number (Some kinds.External) = is_wanted (slice_get symbols number) ≡ true
IsFit symbols number _ = ⊤

fit : (symbols : List Symbol) (i number : ℕ) (kind : Option Kind) → kind_fault symbols i kind number ≡ None → IsFit symbols number kind
fit symbols i number kind h = search rules

all_fit : (symbols : List Symbol) (i : ℕ) (rs : List Reloc) → first_bad_word symbols i rs ≡ None →
    AllByRecursion (λ r. IsFit symbols (symbol_number r) (kind_of r)) rs
all_fit symbols i [] h = tt
all_fit symbols i (r ∷ rs) h =
    let both = first_of_none (word_fault symbols i r) (first_bad_word symbols (i + 1) rs) h in
    (fit symbols i (symbol_number r) (kind_of r) both.0, all_fit symbols (i + 1) rs both.1)

module _ (es : Named) (symbols : List Symbol) (shifts : Shifts) where
  placed_reference-is : (number : ℕ) (kind : Option Kind) → IsFit symbols number kind →
      placed_reference es (all_places es symbols) shifts number kind ≡ reference es symbols shifts number kind
  placed_reference-is number kind h = search (rules, wanted_place)

  cell-is : (own_shift w : ℕ) (r : Reloc) → IsFit symbols (symbol_number r) (kind_of r) →
      placed_cell es (all_places es symbols) shifts own_shift w r ≡ own_cell es symbols shifts own_shift w r
  cell-is own_shift w r h = cc (placed_reference-is (symbol_number r) (kind_of r) h)

  cells-are : (own_shift : ℕ) (ws : List ℕ) (rs : List Reloc) → AllByRecursion (λ r. IsFit symbols (symbol_number r) (kind_of r)) rs →
      placed_cells es (all_places es symbols) shifts own_shift ws rs ≡ own_cells es symbols shifts own_shift ws rs
  cells-are own_shift [] rs h = refl
  cells-are own_shift (w ∷ ws) [] h = refl
  cells-are own_shift (w ∷ ws) (r ∷ rs) h = cc (cell-is own_shift w r h.0, cells-are own_shift ws rs h.1)

-- the cells of an object's words
module _ (es : Named) (o : Contents) (shifts : Shifts) (own_shift : ℕ) (well : IsWellFormed o) (places : List ℕ)
    (same : places ≡ all_places es o.symbols) where
  both : AllByRecursion (λ r. IsFit o.symbols (symbol_number r) (kind_of r)) o.text_reloc
      × AllByRecursion (λ r. IsFit o.symbols (symbol_number r) (kind_of r)) o.data_reloc
  both =
      all_split (λ r. IsFit o.symbols (symbol_number r) (kind_of r)) o.text_reloc o.data_reloc
      (all_fit o.symbols 0 (o.text_reloc ++ o.data_reloc) (well_formed_parts o well).1)

  -- the code makes the cells of text by the places of names, and they are those by the names
  pub placed_texts : placed_cells es places shifts own_shift o.text_words o.text_reloc
      ≡ own_cells es o.symbols shifts own_shift o.text_words o.text_reloc
  placed_texts = cc (cells-are es o.symbols shifts own_shift o.text_words o.text_reloc both.0)

  -- the same of data
  pub placed_datas : placed_cells es places shifts own_shift o.data_words o.data_reloc
      ≡ own_cells es o.symbols shifts own_shift o.data_words o.data_reloc
  placed_datas = cc (cells-are es o.symbols shifts own_shift o.data_words o.data_reloc both.1)
