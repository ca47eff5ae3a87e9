-- The marks of a chain bring its cells back.
use Rattle.std.proofs.Common.{◌≡◌, ◌<◌, ◌⊎◌, inl, inr, ℕ, zero, suc, Bool, true, false, ◌||◌, List, [], ◌∷◌, ◌++◌, length, Some}
use Rattle.std.proofs.{Common.{slice_index_or, refl, sym, ap, ◌∙◌, subst, arith, rules}, lemmas.Bool.cases_eq}
use Rattle.std.specs.{Prelude.slice_get, List.AllByRecursion}
use Rattle.aout_core.specs.declared.symbol.Segment.{Segment}
use Rattle.link_session.specs.{internal.Chains.{Link, is_on, IsWithin, bound_where, nowhere, marks_of, heads_back}, declared.cell.Cell.Cell}
use Rattle.link_session.specs.{declared.mark.Mark.Mark, declared.mark.Mark.TheVariants.{CellWas, StateWas}, declared.mark.Place.Place}
use Rattle.link_session.specs.{declared.mark.Place.TheVariants.{InText, InData}, Image.Image, Undo.{put_all_back, IsInside}}
use Rattle.link_session.proofs.WriteBackLemmas.{written_back, written_back-old, AreOf, IsWritten, text_writes, data_writes}
use Rattle.link_session.proofs.ChainLemmas.{length-bound_where, other_number}

get_unbound : (test : ℕ → Bool) (segment : Segment) (offset : ℕ) (cs : List Cell) (i : ℕ) → test i ≡ false →
    slice_get (bound_where test segment offset cs) i ≡ slice_get cs i
get_unbound test segment offset [] i h = refl
get_unbound test segment offset (c ∷ cs) zero h = search rules
get_unbound test segment offset (c ∷ cs) (suc i) h = get_unbound (λ n. test (suc n)) segment offset cs i h

get_inside : (cs : List Cell) (i : ℕ) → i < length cs → slice_get cs i ≡ Some (slice_index_or cs i nowhere)
get_inside [] i h = absurd (omega arith)
get_inside (c ∷ cs) zero h = refl
get_inside (c ∷ cs) (suc i) h = get_inside cs i (omega arith)

module _ (texts datas : List Cell) where
  abbrev Inside : List Place → Type 0
  Inside ps = AllByRecursion (IsWithin (length texts) (length datas)) ps

  texts_are_old : (ps : List Place) → Inside ps → AreOf texts (text_writes (marks_of texts datas ps))
  texts_are_old [] h = tt
  texts_are_old (InText i ∷ ps) h = (get_inside texts i h.0, texts_are_old ps h.1)
  texts_are_old (InData i ∷ ps) h = texts_are_old ps h.1

  datas_are_old : (ps : List Place) → Inside ps → AreOf datas (data_writes (marks_of texts datas ps))
  datas_are_old [] h = tt
  datas_are_old (InText i ∷ ps) h = datas_are_old ps h.1
  datas_are_old (InData i ∷ ps) h = (get_inside datas i h.0, datas_are_old ps h.1)

  text_written : (ps : List Place) (i : ℕ) → is_on ps (InText i) ≡ true → IsWritten i (text_writes (marks_of texts datas ps))
  text_written [] i e = absurd (cc)
  text_written (InText j ∷ ps) i e = search (rules, cases_eq, text_writes, other_number, text_written ps i)
  text_written (InData j ∷ ps) i e = text_written ps i e

  data_written : (ps : List Place) (i : ℕ) → is_on ps (InData i) ≡ true → IsWritten i (data_writes (marks_of texts datas ps))
  data_written [] i e = absurd (cc)
  data_written (InText j ∷ ps) i e = data_written ps i e
  data_written (InData j ∷ ps) i e = by_order (cases_eq i j) (data_written ps i)
    where
      by_order : (i ≡ j) ⊎ (i ≡ j → ⊥) → (is_on ps (InData i) ≡ true → IsWritten i (data_writes (marks_of texts datas ps))) →
          (j ≡ i) ⊎ IsWritten i (data_writes (marks_of texts datas ps))
      by_order (inl same) rest = inl (sym same)
      by_order (inr ne) rest = inr (rest (ap (λ (t : Bool). t || is_on ps (InData i)) (sym (other_number i j ne)) ∙ e))

  -- marks of cells write cells alone
  only_cells : (ps : List Place) (m : Image) → put_all_back (marks_of texts datas ps) m ≡ (record m {
    text_cells = written_back (text_writes (marks_of texts datas ps)) m.text_cells;
    data_cells = written_back (data_writes (marks_of texts datas ps)) m.data_cells;
  })
  only_cells [] m = refl
  only_cells (InText i ∷ ps) m = cc (only_cells ps m)
  only_cells (InData i ∷ ps) m = cc (only_cells ps m)

  module _ (segment : Segment) (offset : ℕ) (ps : List Place) (h : Inside ps) where
    text_back : written_back (text_writes (marks_of texts datas ps)) (bound_where (λ i. is_on ps (InText i)) segment offset texts) ≡ texts
    text_back =
        written_back-old (text_writes (marks_of texts datas ps)) texts (bound_where (λ i. is_on ps (InText i)) segment offset texts)
        (texts_are_old ps h) (length-bound_where (λ i. is_on ps (InText i)) segment offset texts)
        (λ i. by_test i (is_on ps (InText i)) refl)
      where
        by_test : (i : ℕ) (t : Bool) → is_on ps (InText i) ≡ t →
            (slice_get (bound_where (λ j. is_on ps (InText j)) segment offset texts) i ≡ slice_get texts i)
            ⊎ IsWritten i (text_writes (marks_of texts datas ps))
        by_test i true e = inr (text_written ps i e)
        by_test i false e = inl (get_unbound (λ j. is_on ps (InText j)) segment offset texts i e)

    data_back : written_back (data_writes (marks_of texts datas ps)) (bound_where (λ i. is_on ps (InData i)) segment offset datas) ≡ datas
    data_back =
        written_back-old (data_writes (marks_of texts datas ps)) datas (bound_where (λ i. is_on ps (InData i)) segment offset datas)
        (datas_are_old ps h) (length-bound_where (λ i. is_on ps (InData i)) segment offset datas)
        (λ i. by_test i (is_on ps (InData i)) refl)
      where
        by_test : (i : ℕ) (t : Bool) → is_on ps (InData i) ≡ t →
            (slice_get (bound_where (λ j. is_on ps (InData j)) segment offset datas) i ≡ slice_get datas i)
            ⊎ IsWritten i (data_writes (marks_of texts datas ps))
        by_test i true e = inr (data_written ps i e)
        by_test i false e = inl (get_unbound (λ j. is_on ps (InData j)) segment offset datas i e)

    -- the marks of a chain put back in an image in which it was bound
    pub chain_back : (m : Image) → m.text_cells ≡ bound_where (λ i. is_on ps (InText i)) segment offset texts →
        m.data_cells ≡ bound_where (λ i. is_on ps (InData i)) segment offset datas →
        put_all_back (marks_of texts datas ps) m ≡ (record m { text_cells = texts; data_cells = datas })
    chain_back m t d = only_cells ps m ∙ (λ i. record m {
      text_cells = (ap (written_back (text_writes (marks_of texts datas ps))) t ∙ text_back) i;
      data_cells = (ap (written_back (data_writes (marks_of texts datas ps))) d ∙ data_back) i;
    })

    -- they lie inside the image
    pub chain_inside : (m : Image) → length m.text_cells ≡ length texts → length m.data_cells ≡ length datas →
        AllByRecursion (IsInside m) (marks_of texts datas ps)
    chain_inside m t d = each ps h
      where
        each : (qs : List Place) → AllByRecursion (IsWithin (length texts) (length datas)) qs →
            AllByRecursion (IsInside m) (marks_of texts datas qs)
        each [] k = tt
        each (InText i ∷ qs) k = (subst (λ (n : ℕ). i < n) (sym t) k.0, each qs k.1)
        each (InData i ∷ qs) k = (subst (λ (n : ℕ). i < n) (sym d) k.0, each qs k.1)

-- heads are put back in the same order
pub heads_back-append : (ks ls : List Mark) (heads : List Link) → heads_back (ks ++ ls) heads ≡ heads_back ks (heads_back ls heads)
heads_back-append [] ls heads = refl
heads_back-append (CellWas p c ∷ ks) ls heads = ap (λ (l : List Link). heads_back (CellWas p c ∷ []) l) (heads_back-append ks ls heads)
heads_back-append (StateWas i s ∷ ks) ls heads = heads_back-append ks ls heads
