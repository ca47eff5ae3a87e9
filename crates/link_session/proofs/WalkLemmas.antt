-- A chain that is bound and marked, place by place.
use Rattle.std.proofs.Common.{◌≡◌, ◌<◌, ◌≤◌, ◌+◌, ◌||◌, ℕ, Bool, false, cond, List, [], ◌∷◌, ◌++◌, length, Some, None, slice_index_or, sym}
use Rattle.std.proofs.{Common.{ap, ◌∙◌, subst, arith, append_assoc, append-nil, length-append, rules}, lemmas.List.map-append}
use Rattle.std.specs.List.{AllByRecursion}
use Rattle.aout_core.specs.declared.symbol.Segment.{Segment}
use Rattle.link_session.specs.internal.Chains.{Link, link_at, IsChain, is_on, AreApart, IsWithin, EndsWithin, IsBoundTo, bound_to}
use Rattle.link_session.specs.internal.Chains.{bound_where, text_bound_at, data_bound_at, bound_one, walk, cell_at, nowhere, marks_of}
use Rattle.link_session.specs.{declared.cell.Cell.Cell, declared.mark.Mark.Mark, declared.mark.Mark.TheVariants.CellWas}
use Rattle.link_session.specs.{declared.mark.Place.Place, declared.mark.Place.TheVariants.InText, declared.mark.Place.TheVariants.InData}
use Rattle.link_session.proofs.ListLemmas.{all_split}
use Rattle.link_session.proofs.ChainLemmas.{none_bound, length-bound_where, index_where, bound_where-one, on_inside, on_last, own_number}
use Rattle.link_session.proofs.ChainLemmas.{other_number, or_false, or_true, not_after, next_ahead, none_ahead, chain-unique, walk-is}
use Rattle.link_session.proofs.ChainLemmas.{few_places}

module _ (ts ds : List Link) (head : Link) (segment : Segment) (offset : ℕ) (texts datas : List Cell) (marks : List Mark) where
  -- before the walk no cell is bound
  pub begun : EndsWithin ts ds head (length texts) (length datas) →
      IsBoundTo ts ds head head segment offset texts datas marks texts datas marks
  begun w = record {
    done = [];
    rest = w.places;
    visits = w.visits;
    ahead = w.visits;
    apart = w.apart;
    inside = w.inside;
    text = none_bound segment offset texts;
    «data» = none_bound segment offset datas;
    marked = sym (append-nil marks);
  }

  module _ (next : Link) (new_texts new_datas : List Cell) (new_marks : List Mark)
      (w : IsBoundTo ts ds head next segment offset texts datas marks new_texts new_datas new_marks) where
    moved : (tail : List Place) (p : Place) → w.rest ≡ p ∷ tail → w.done ++ w.rest ≡ (w.done ++ p ∷ []) ++ tail
    moved tail p e = ap (λ (l : List Place). w.done ++ l) e ∙ sym (append_assoc w.done (p ∷ []) tail)

    fresh : (tail : List Place) (p : Place) → w.rest ≡ p ∷ tail → is_on w.done p ≡ false
    fresh tail p e = not_after w.done tail p (subst (λ (l : List Place). AreApart (w.done ++ l)) e w.apart)

    -- the place that comes next lies within the cells
    pub next_inside : (p : Place) → next ≡ Some p → IsWithin (length new_texts) (length new_datas) p
    next_inside p e =
        let a = next_ahead ts ds next w.rest p w.ahead e in
        let t : length new_texts ≡ length texts =
        ap (λ (l : List Cell). length l) w.text ∙ length-bound_where (λ i. is_on w.done (InText i)) segment offset texts in
        let d : length new_datas ≡ length datas =
        ap (λ (l : List Cell). length l) w.data ∙ length-bound_where (λ i. is_on w.done (InData i)) segment offset datas in
        subst (λ (P : Type 0). P) (λ i. IsWithin (sym t i) (sym d i) p)
        (all_split (IsWithin (length texts) (length datas)) w.done (p ∷ a.tail)
        (subst (λ (l : List Place). AllByRecursion (IsWithin (length texts) (length datas)) (w.done ++ l)) a.is w.inside)).1.0

    -- the places that were visited are in the image
    pub done_inside : AllByRecursion (IsWithin (length texts) (length datas)) w.done
    done_inside = (all_split (IsWithin (length texts) (length datas)) w.done w.rest w.inside).0

    -- a cell is bound if its place is done
    pub cell_now : (p : Place) → cell_at new_texts new_datas p ≡ cond (is_on w.done p)
        (bound_to segment offset (cell_at texts datas p)) (cell_at texts datas p)
    cell_now (InText i) =
        ap (λ (cs : List Cell). slice_index_or cs i nowhere) w.text
        ∙ index_where (λ j. is_on w.done (InText j)) segment offset texts i
        (on_inside (length texts) (length datas) w.done (InText i) done_inside)
    cell_now (InData i) =
        ap (λ (cs : List Cell). slice_index_or cs i nowhere) w.data
        ∙ index_where (λ j. is_on w.done (InData j)) segment offset datas i
        (on_inside (length texts) (length datas) w.done (InData i) done_inside)

    not_yet : (p : Place) → is_on w.done p ≡ false → cell_at new_texts new_datas p ≡ cell_at texts datas p
    not_yet p off = cell_now p ∙ ap (λ (t : Bool). cond t (bound_to segment offset (cell_at texts datas p)) (cell_at texts datas p)) off

    text_next : (p : Place) → is_on w.done p ≡ false → text_bound_at p segment offset new_texts
        ≡ bound_where (λ j. is_on (w.done ++ p ∷ []) (InText j)) segment offset texts
    text_next p off = search (rules, bound_where-one, on_last, own_number, or_true, other_number, or_false)

    data_next : (p : Place) → is_on w.done p ≡ false → data_bound_at p segment offset new_datas
        ≡ bound_where (λ j. is_on (w.done ++ p ∷ []) (InData j)) segment offset datas
    data_next (InText i) off =
        w.data
        ∙ (λ k. bound_where (λ j. sym (on_last w.done (InData j) (InText i) ∙ or_false (is_on w.done (InData j))) k) segment offset datas)
    data_next (InData i) off =
        ap (bound_one segment offset i) w.data
        ∙ bound_where-one segment offset (λ j. is_on w.done (InData j)) (λ j. is_on (w.done ++ InData i ∷ []) (InData j)) i off
        (on_last w.done (InData i) (InData i) ∙ ap (λ (t : Bool). is_on w.done (InData i) || t) (own_number i)
        ∙ or_true (is_on w.done (InData i)))
        (λ j ne. sym (on_last w.done (InData j) (InData i) ∙ ap (λ (t : Bool). is_on w.done (InData j) || t)
        (other_number j i (λ e. ne (sym e))) ∙ or_false (is_on w.done (InData j))))
        datas

    -- one more place is bound and marked
    pub step : (p : Place) → next ≡ Some p →
        IsBoundTo ts ds head (link_at ts ds p) segment offset texts datas marks (text_bound_at p segment offset new_texts)
        (data_bound_at p segment offset new_datas) (new_marks ++ CellWas p (cell_at new_texts new_datas p) ∷ [])
    step p e =
        let a = next_ahead ts ds next w.rest p w.ahead e in
        let off = fresh a.tail p a.is in record {
          done = w.done ++ p ∷ [];
          rest = a.tail;
          visits = subst (IsChain ts ds head) (moved a.tail p a.is) w.visits;
          ahead = a.goes_on;
          apart = subst AreApart (moved a.tail p a.is) w.apart;
          inside = subst (AllByRecursion (IsWithin (length texts) (length datas))) (moved a.tail p a.is) w.inside;
          text = text_next p off;
          «data» = data_next p off;
          marked =
              (λ i. w.marked i ++ CellWas p (not_yet p off i) ∷ [])
              ∙ append_assoc marks (marks_of texts datas w.done) (CellWas p (cell_at texts datas p) ∷ [])
              ∙ ap (λ (ks : List Mark). marks ++ ks) (sym (map-append (λ (q : Place). CellWas q (cell_at texts datas q)) w.done (p ∷ [])));
        }

    -- what is ahead is at most as long as there are cells, and shorter after its first place
    few_ahead : length w.rest ≤ length texts + length datas
    few_ahead = omega (arith, few_places (length texts) (length datas) (w.done ++ w.rest) w.apart w.inside, length-append w.done w.rest)

    -- each step leaves a shorter chain: so the walk ends
    pub shorter : (p : Place) → next ≡ Some p → length (walk (length texts + length datas) ts ds (link_at ts ds p))
        < length (walk (length texts + length datas) ts ds next)
    shorter p e = search (rules, next_ahead, few_ahead, walk-is)

    -- the chain was walked to its end
    pub ended : next ≡ None → (ps : List Place) → IsChain ts ds head ps → w.done ≡ ps
    ended e ps c = search (rules, append-nil, none_ahead, chain-unique)
