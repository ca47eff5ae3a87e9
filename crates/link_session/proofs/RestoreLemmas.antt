-- The marks of one chain, and of several, bring cells and heads back.
use Rattle.std.proofs.Common.{◌≡◌, ◌<◌, ℕ, zero, suc, Bool, true, List, [], ◌∷◌, ◌++◌, map, length, None, slice_index_or, slice_set}
use Rattle.std.proofs.Common.{sym, ap, ◌∙◌, subst, arith, rules}
use Rattle.std.specs.List.{AllByRecursion}
use Rattle.aout_core.specs.declared.symbol.Segment.{Segment}
use Rattle.link_session.specs.internal.Chains.{Link, is_on, IsWithin, IsBoundTo, FindsWaiting, bound_if, cell_at, nowhere, marks_of}
use Rattle.link_session.specs.{internal.Chains.AreChained, declared.cell.Cell.Cell, declared.cell.Target.TheVariants.External}
use Rattle.link_session.specs.{declared.mark.Mark.Mark, declared.mark.Place.Place, declared.mark.Place.TheVariants.{InText, InData}}
use Rattle.link_session.specs.internal.Restores.{Restores, LeavesMarks, HoldBound}
use Rattle.link_session.proofs.{ListLemmas.all_append, ChainLemmas.{on_inside, on_either, apart_parts, chain-unique}}
use Rattle.link_session.proofs.{WalkLemmas.{done_inside, cell_now, ended}, MarkLemmas.put_all_back-append}
use Rattle.link_session.proofs.MarkedLemmas.{cells_marked-append, states_marked-append, no_states, chain_marked, bound_held, held_then}
use Rattle.link_session.proofs.{WaitLemmas.{bound_on_chain, heads_back-chain}, CountLemmas.waits_is}
use Rattle.link_session.proofs.ChainBackLemmas.{chain_back, chain_inside, heads_back-append}

-- the cell at an index that passes the test waits
found_waits : (test : ℕ → Bool) (k : ℕ) (cs : List Cell) → FindsWaiting test k cs → (i : ℕ) → i < length cs → test i ≡ true →
    (slice_index_or cs i nowhere).target ≡ External k
found_waits test k [] h i lt e = absurd (omega arith)
found_waits test k (c ∷ cs) h zero lt e = waits_is k c.target (sym h.0 ∙ e)
found_waits test k (c ∷ cs) h (suc i) lt e = found_waits (λ n. test (suc n)) k cs h.1 i (omega arith) e

module _ (ts ds : List Link) (texts datas : List Cell) (heads : List Link) (a : AreChained texts datas ts ds heads) (k : ℕ)
    (segment : Segment) (offset : ℕ) (next : Link) (marks : List Mark) (new_texts new_datas : List Cell) (new_marks : List Mark)
    (w : IsBoundTo ts ds (slice_index_or heads k None) next segment offset texts datas marks new_texts new_datas new_marks) where
  abbrev inside_done : AllByRecursion (IsWithin (length texts) (length datas)) w.done
  inside_done = done_inside ts ds (slice_index_or heads k None) segment offset texts datas marks next new_texts new_datas new_marks w

  on_places : (p : Place) → is_on w.done p ≡ true → is_on (a.each k).places p ≡ true
  on_places p e = search (rules, chain-unique, on_either)

  waits_there : (p : Place) → is_on w.done p ≡ true → (cell_at texts datas p).target ≡ External k
  waits_there (InText i) e =
      found_waits (λ j. is_on (a.each k).places (InText j)) k texts (a.each k).text i
      (on_inside (length texts) (length datas) w.done (InText i) inside_done e) (on_places (InText i) e)
  waits_there (InData i) e =
      found_waits (λ j. is_on (a.each k).places (InData j)) k datas (a.each k).data i
      (on_inside (length texts) (length datas) w.done (InData i) inside_done e) (on_places (InData i) e)

  -- the first part of one chain
  pub chain_left : LeavesMarks texts datas heads new_texts new_datas (slice_set heads k next) marks new_marks
  chain_left = record {
    marks = marks_of texts datas w.done;
    last = w.marked;
    restores = record {
      cells = λ m mt md. chain_back texts datas segment offset w.done inside_done m (mt ∙ w.text) (md ∙ w.data);
      heads_are = heads_back-chain ts ds k (cell_at texts datas) w.done w.rest next waits_there heads w.visits w.ahead;
      inside = λ m mt md. chain_inside texts datas segment offset w.done inside_done m mt md;
      cells_are = λ p.
          let now = cell_now ts ds (slice_index_or heads k None) segment offset texts datas marks next new_texts new_datas new_marks w p in
          subst (λ (P : Type 0). P) (λ i. HoldBound (cell_at texts datas p) (sym now i)
          (sym (chain_marked texts datas w.done (apart_parts w.done w.rest w.apart).0 p) i))
          (bound_held k segment offset (cell_at texts datas p) (is_on w.done p) (waits_there p));
      no_states = λ i. no_states i texts datas w.done;
    };
  }

  -- all of it
  all_done : next ≡ None → w.done ≡ (a.each k).places
  all_done e = cc (ended ts ds (slice_index_or heads k None) segment offset texts datas marks next new_texts new_datas new_marks w e
      (a.each k).places (a.each k).visits)

  -- once a chain is at its end, all cells of text that waited are bound
  pub all_texts : next ≡ None → new_texts ≡ map (bound_if k segment offset) texts
  all_texts e = search (rules, all_done, bound_on_chain)

  -- the same of data
  pub all_datas : next ≡ None → new_datas ≡ map (bound_if k segment offset) datas
  all_datas e = search (rules, all_done, bound_on_chain)

  -- and the marks are those of the whole chain
  pub all_marks : next ≡ None → new_marks ≡ marks ++ marks_of texts datas (a.each k).places
  all_marks e = w.marked ∙ ap (λ (ps : List Place). marks ++ marks_of texts datas ps) (all_done e)

-- marks after marks
pub restores_then : (texts datas mid_texts mid_datas new_texts new_datas : List Cell) (heads mid_heads new_heads : List Link)
    (ks ls : List Mark) → length mid_texts ≡ length texts → length mid_datas ≡ length datas →
    Restores texts datas heads mid_texts mid_datas mid_heads ks → Restores mid_texts mid_datas mid_heads new_texts
    new_datas new_heads ls → Restores texts datas heads new_texts new_datas new_heads (ks ++ ls)
restores_then texts datas mid_texts mid_datas new_texts new_datas heads mid_heads new_heads ks ls lt ld r s = search (
  rules,
  put_all_back-append,
  heads_back-append,
  all_append,
  cells_marked-append,
  held_then,
  no_states,
  states_marked-append,
)
