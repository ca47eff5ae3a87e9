-- Binding as a change of the whole image: one cell, a chain, an external, and several externals.
use Rattle.std.proofs.Common.{◌≡◌, ◌<◌, ◌+◌, ℕ, zero, suc, List, [], ◌∷◌, map, length, refl, ◌∙◌, sym, ap, subst, arith, cond, Some, None}
use Rattle.std.proofs.Common.{slice_index_or, slice_set, rules}
use Rattle.link_session.specs.internal.Chains.{Link, IsBoundTo, AreChained, link_at, walk, waits_at, bound_if}
use Rattle.link_session.specs.internal.Fields.{threads_in, with_heads, HoldsChains, LeavesMarksIn, KeepsCapacity}
use Rattle.link_session.specs.internal.Bindings.{Bindable, bindable_in, settled, settled_all, IsSettled, KeepsRest, IsChainIn, IsPlaceIn}
use Rattle.link_session.specs.{internal.Bindings.{BindsAt, BindsTo}, declared.bind.Definition.Definition, declared.cell.Cell.Cell}
use Rattle.link_session.specs.{declared.mark.Mark.Mark, declared.mark.Place.Place, declared.merged.Merged.Merged}
use Rattle.link_session.specs.{declared.state.State.State, declared.state.State.TheVariants.{Defined, Wanted}, Image.{Named, state_at}}
use Rattle.link_session.specs.{internal.Additions.{bound_by, bound_or}, internal.Counts.NotesBound, internal.Restores.LeavesMarks}
use Rattle.link_session.specs.{internal.Settled.{settled_at, settled_over}, internal.Threads.{Threads, cut_by_state, cut_heads}}
use Rattle.link_session.proofs.{WalkLemmas.{begun, next_inside, step, shorter}, RestoreLemmas.{chain_left, all_texts, all_datas, all_marks}}
use Rattle.link_session.proofs.{FewLemmas.{chain_noted, defined_noted}, NamesLemmas.{all_one, none_left, unsettled, leaves_then}}
use Rattle.link_session.proofs.{ChainedLemmas.cut_to, EmptyChainLemmas.{no_text, no_data}}

-- What stays.

capacity_same : (m : Merged) → KeepsCapacity m m
capacity_same m = search rules

pub rest_same : (m : Merged) → KeepsRest m m
rest_same m = record { image = refl; threads = refl; capacity = capacity_same m }

-- what two steps of binding leave alone, both together leave alone
pub rest_then : (old mid new : Merged) → KeepsRest old mid → KeepsRest mid new → KeepsRest old new
rest_then old mid new p q = search rules

link_same : (old new : Merged) → KeepsRest old new → (p : Place) →
    link_at new.text_links.items new.data_links.items p ≡ link_at old.text_links.items old.data_links.items p
link_same old new r p = ap (λ (t : Threads). link_at t.text_links t.data_links p) r.threads

-- each cell has a link before and after, so the cells are as many as before
module _ (old mid : Merged) (h : HoldsChains old) (same : threads_in mid ≡ threads_in old) (new : Merged) (g : HoldsChains new)
    (r : threads_in new ≡ with_heads new.heads.items (threads_in mid)) where
  links : (of : Threads → List Link) → of (threads_in new) ≡ of (with_heads new.heads.items (threads_in old))
  links of = ap of r ∙ ap (λ (t : Threads). of (with_heads new.heads.items t)) same

  -- binding changes no length: neither that of text
  pub texts_bound : length new.text_cells.items ≡ length old.text_cells.items
  texts_bound = sym g.text ∙ ap (λ (l : List Link). length l) (links (λ t. t.text_links)) ∙ h.text

  -- nor that of data
  pub datas_bound : length new.data_cells.items ≡ length old.data_cells.items
  datas_bound = sym g.data ∙ ap (λ (l : List Link). length l) (links (λ t. t.data_links)) ∙ h.data

-- A chain, cell by cell.

-- before the loop over a chain nothing is bound
pub chain_begun : (to : Definition) (head : Link) (m : Merged) (marks : List Mark) → IsChainIn m head →
    BindsTo to head head m m marks marks
chain_begun to head m marks ends = search (rules, begun, rest_same)

module _ (to : Definition) (head next : Link) (old mid : Merged) (marks mid_marks : List Mark)
    (w : BindsTo to head next old mid marks mid_marks) (p : Place) (here : next ≡ Some p) where
  abbrev ts : List Link
  ts = old.text_links.items

  abbrev ds : List Link
  ds = old.data_links.items

  abbrev texts : List Cell
  texts = old.text_cells.items

  abbrev datas : List Cell
  datas = old.data_cells.items

  -- the loop may read and write the cell at the next place: it is in the image
  pub chain_inside : IsPlaceIn mid p
  chain_inside = search (rules, next_inside)

  module _ (new : Merged) (new_marks : List Mark) (b : BindsAt to p mid new mid_marks new_marks) (link : Link)
      (goes_on : link ≡ link_at new.text_links.items new.data_links.items p) where
    after : KeepsRest old new
    after = rest_then old mid new w.rest b.rest

    at : link ≡ link_at ts ds p
    at = goes_on ∙ link_same old new after p

    -- a turn of the loop binds one more cell of the chain, and marks it
    pub chain_step : BindsTo to head link old new marks new_marks
    chain_step = record {
      bound =
          subst (λ (P : Type 0). P)
          (λ i. IsBoundTo ts ds head (sym at i) to.segment to.offset texts datas marks (sym b.texts i) (sym b.datas i) (sym b.marked i))
          (step ts ds head to.segment to.offset texts datas marks next mid.text_cells.items mid.data_cells.items mid_marks
          w.bound p here);
      heads = b.heads ∙ w.heads;
      rest = after;
    }

    -- the loop ends, since each turn leaves a shorter chain
    pub chain_shorter : length (walk (length texts + length datas) ts ds link) < length (walk (length texts + length datas) ts ds next)
    chain_shorter = search (rules, at, shorter)

-- The chain of an external, once it is cut to where binding stopped.

module _ (to : Definition) (k : ℕ) (next : Link) (old mid : Merged) (marks new_marks : List Mark) (h : HoldsChains old)
    (w : BindsTo to (slice_index_or old.heads.items k None) next old mid marks new_marks) (heads : List Link)
    (cut : heads ≡ slice_set old.heads.items k next) where
  abbrev texts_of : List Cell
  texts_of = old.text_cells.items

  abbrev datas_of : List Cell
  datas_of = old.data_cells.items

  -- with the head that the loop ends at, all chains are right again
  pub chain_cut : AreChained mid.text_cells.items mid.data_cells.items mid.text_links.items mid.data_links.items heads
  chain_cut = grind (
    arith,
    cut_to texts_of datas_of old.text_links.items old.data_links.items old.heads.items h k to.segment to.offset
        next marks mid.text_cells.items mid.data_cells.items new_marks w.bound,
  )

  -- the marks that the loop made undo it
  pub chain_back : LeavesMarks texts_of datas_of old.heads.items mid.text_cells.items mid.data_cells.items heads marks new_marks
  chain_back = grind (
    arith,
    chain_left old.text_links.items old.data_links.items texts_of datas_of old.heads.items h k to.segment
        to.offset next marks mid.text_cells.items mid.data_cells.items new_marks w.bound,
  )

  -- it was bound to its end, and the external is defined so
  module _ (end : next ≡ None) (es : Named) (defined : state_at es k ≡ Defined to.segment to.offset) where
    bound_same : (cs : List Cell) → map (bound_if k to.segment to.offset) cs ≡ map (settled_at es k) cs
    bound_same cs = ap (λ (s : State). map (λ (c : Cell). cond (waits_at k c.target) (bound_or (bound_by s c) c) c) cs) (sym defined)

    texts_settled : mid.text_cells.items ≡ map (settled_at es k) texts_of
    texts_settled = cc (
      all_texts old.text_links.items old.data_links.items texts_of datas_of old.heads.items h k to.segment to.offset next
          marks mid.text_cells.items mid.data_cells.items new_marks w.bound end,
      bound_same texts_of,
    )

    datas_settled : mid.data_cells.items ≡ map (settled_at es k) datas_of
    datas_settled =
        all_datas old.text_links.items old.data_links.items texts_of datas_of old.heads.items h k to.segment to.offset next
        marks mid.text_cells.items mid.data_cells.items new_marks w.bound end
        ∙ bound_same datas_of

    heads_cut : heads ≡ cut_by_state (state_at es k) k old.heads.items
    heads_cut = search rules

    -- the cells and heads after the loop are those of the definition
    pub chain_bound :
        (let b : Bindable = record { texts = mid.text_cells.items; datas = mid.data_cells.items; heads = heads } in b)
        ≡ settled es k (bindable_in old)
    chain_bound = λ i. record { texts = texts_settled i; datas = datas_settled i; heads = heads_cut i }

    -- a mark was made for each cell that became bound, and for no other
    pub chain_few : NotesBound es texts_of datas_of mid.text_cells.items mid.data_cells.items marks new_marks
    chain_few =
        defined_noted es k to.segment to.offset defined texts_of datas_of mid.text_cells.items mid.data_cells.items marks
        new_marks texts_settled datas_settled
        (chain_noted old.text_links.items old.data_links.items (slice_index_or old.heads.items k None) texts_of datas_of k
        (h.each k) marks new_marks
        (all_marks old.text_links.items old.data_links.items texts_of datas_of old.heads.items h k to.segment to.offset next
        marks mid.text_cells.items mid.data_cells.items new_marks w.bound end))

-- An external for which no cell waits, or that is not defined, leaves all as it is.

set_none : (heads : List Link) (k : ℕ) → slice_index_or heads k None ≡ None → heads ≡ slice_set heads k None
set_none [] k e = refl
set_none (h ∷ hs) zero e = ap (λ (l : Link). l ∷ hs) e
set_none (h ∷ hs) (suc k) e = ap (λ (l : List Link). h ∷ l) (set_none hs k e)

heads_stay : (s : State) (heads : List Link) (k : ℕ) → slice_index_or heads k None ≡ None → heads ≡ cut_by_state s k heads
heads_stay s heads k e = search (rules, set_none)

-- no loop is needed for an external without a head: no cell waits for it
pub none_waits : (m : Merged) (k : ℕ) → HoldsChains m → slice_index_or m.heads.items k None ≡ None →
    bindable_in m ≡ settled m.externals.entries k (bindable_in m)
none_waits m k h empty = search (rules, no_text, no_data, heads_stay)

-- nor for one that is still wanted
pub none_defined : (m : Merged) (k size : ℕ) → state_at m.externals.entries k ≡ Wanted size →
    bindable_in m ≡ settled m.externals.entries k (bindable_in m)
none_defined m k size wanted = search (rules, unsettled)

-- One external after another.

module _ (old mid new : Merged) (marks mid_marks new_marks : List Mark) (r : KeepsRest old mid) where
  -- the marks of one external and of those after it, in turn, undo all that was bound
  pub back_then : HoldsChains old → HoldsChains mid → LeavesMarksIn old mid marks mid_marks →
      LeavesMarksIn mid new mid_marks new_marks → LeavesMarksIn old new marks new_marks
  back_then h g a b = search (rules, leaves_then, texts_bound)

  -- and are one for each cell that became bound
  pub few_then : NotesBound old.externals.entries old.text_cells.items old.data_cells.items mid.text_cells.items
      mid.data_cells.items marks mid_marks → NotesBound mid.externals.entries mid.text_cells.items mid.data_cells.items
      new.text_cells.items new.data_cells.items mid_marks new_marks → NotesBound old.externals.entries
      old.text_cells.items old.data_cells.items new.text_cells.items new.data_cells.items marks new_marks
  few_then a b = search rules

  -- binding the first external, and then the others, is what the definition makes of all
  pub settled_then : (k : ℕ) (ks : List ℕ) → IsSettled (k ∷ []) mid new →
      settled_all old.externals.entries (k ∷ ks) (bindable_in mid) ≡ settled_all old.externals.entries ks (bindable_in new)
  settled_then k ks one = search rules

-- Several externals, list by list.

-- what the definition makes of all externals, list by list: the cells of text
pub several_texts : (es : Named) (ks : List ℕ) (b : Bindable) → (settled_all es ks b).texts ≡ map (settled_over es ks) b.texts
several_texts es [] b = sym (none_left es b.texts)
several_texts es (k ∷ ks) b = several_texts es ks (settled es k b) ∙ sym (all_one es k ks b.texts)

-- the cells of data
pub several_datas : (es : Named) (ks : List ℕ) (b : Bindable) → (settled_all es ks b).datas ≡ map (settled_over es ks) b.datas
several_datas es [] b = sym (none_left es b.datas)
several_datas es (k ∷ ks) b = several_datas es ks (settled es k b) ∙ sym (all_one es k ks b.datas)

-- the heads of the chains
pub several_heads : (es : Named) (ks : List ℕ) (b : Bindable) → (settled_all es ks b).heads ≡ cut_heads es ks b.heads
several_heads es [] b = refl
several_heads es (k ∷ ks) b = several_heads es ks (settled es k b)
