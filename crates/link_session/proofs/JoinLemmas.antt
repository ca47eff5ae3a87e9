-- The image while an object is joined to it.
use Rattle.std.proofs.Common.{◌≡◌, ℕ, ◌+◌, ◌≤◌, List, ◌++◌, map, length, refl, ◌∙◌, ap, subst, arith, None, rules}
use Rattle.std.specs.{Prelude.filter, Map.keys_of}
use Rattle.aout_core.specs.{declared.symbol.Symbol.Symbol, Contents.Contents, WellFormed.is_external}
use Rattle.link_session.specs.internal.Settled.{settled_over, places_of, IsCovered}
use Rattle.link_session.specs.internal.Threads.{Threads, IsThreaded, cut_heads, bound_heads, next_threads, undo_threads}
use Rattle.link_session.specs.internal.Restores.{Restores, LeavesMarks, TakesBack}
use Rattle.link_session.specs.internal.Fields.{sizes_of, with_cells, with_heads, with_own_cells, with_own_threads, threads_by}
use Rattle.link_session.specs.internal.Fields.{with_heads_back}
use Rattle.link_session.specs.internal.Additions.{with_mentions, all_clashes, mention_by, mentions_by, state_marks, settled_cell}
use Rattle.link_session.specs.internal.Additions.{next_limit, next_shifts, next_mentions, next_named, entered, joined_image}
use Rattle.link_session.specs.{declared.relocate.Shifts.Shifts, Image.Image, Image.Named, declared.cell.Cell.Cell, declared.mark.Mark.Mark}
use Rattle.link_session.specs.{internal.Chains.Link, internal.Counts.NotesBound, Undo.undo}
use Rattle.tool_options.specs.NameLists.{new_names}
use Rattle.link_session.proofs.ThreadBackLemmas.{heads_back-after_states, heads_alone_back}
use Rattle.link_session.proofs.{MentionedLemmas.length-with_mentions, LimitLemmas.new_count-le, TotalLemmas.within_limit}
use Rattle.link_session.proofs.{TakenBackLemmas.taken_back, TakenBackLemmas.bound_alone, MentionLemmas.names_of-map}

-- the fields once the mentions are entered
pub entered-is : (m n : Image) (o f : Contents) (shifts : Shifts) (symbols : List Symbol) (es : Named) (xs : List (List ℕ)) →
    n ≡ m → f ≡ o → symbols ≡ f.symbols → shifts ≡ next_shifts m o →
    es ≡ with_mentions n.externals (mentions_by shifts symbols) → xs ≡ n.multiples ++ all_clashes n.externals
    (mentions_by shifts symbols) → (record n { externals = es; multiples = xs }) ≡ entered m o
entered-is m n o f shifts symbols es xs made file table moved names multiples = search rules

-- the names stay within their limit
pub few_named : (m : Image) (o : Contents) → next_limit m o ≡ None → length (next_named m o) ≤ 65535
few_named m o h = search (rules, within_limit, names_of-map, length-with_mentions)

-- the names grow by no more than the external entries
pub few_new : (m : Image) (o : Contents) → length (next_named m o) ≤ length m.externals + length (filter is_external o.symbols)
few_new m o =
    let same = ap (λ (ns : List (List ℕ)). length (new_names (keys_of m.externals) ns))
    (names_of-map (mention_by (next_shifts m o)) (λ (s : Symbol). s.name) (λ s. refl) (filter is_external o.symbols)) in
    omega (arith, length-with_mentions m.externals (next_mentions m o), same, new_count-le (keys_of m.externals) o.symbols)

-- the image once the chains of the names that the object defines are bound
abbrev pub bound_image : Image → Contents → Image
bound_image m o = record (entered m o) {
  text_cells = map (settled_cell (next_named m o)) m.text_cells;
  data_cells = map (settled_cell (next_named m o)) m.data_cells;
}

module _ (m n : Image) (o : Contents) (symbols : List Symbol) (made : n ≡ entered m o) (table : symbols ≡ o.symbols) where
  cells_are : (old : Image → List Cell) → map (settled_over n.externals (places_of n.externals symbols)) (old n)
      ≡ map (settled_over (next_named m o) (places_of (next_named m o) o.symbols)) (old (entered m o))
  cells_are old = λ i. map (settled_over (made i).externals (places_of (made i).externals (table i))) (old (made i))

  texts_are : IsCovered m o → (texts : List Cell) → texts ≡ map (settled_over n.externals (places_of n.externals symbols))
      n.text_cells → texts ≡ map (settled_cell (next_named m o)) m.text_cells
  texts_are covered texts e = e ∙ cells_are (λ x. x.text_cells) ∙ covered.text

  datas_are : IsCovered m o → (datas : List Cell) → datas ≡ map (settled_over n.externals (places_of n.externals symbols))
      n.data_cells → datas ≡ map (settled_cell (next_named m o)) m.data_cells
  datas_are covered datas e = e ∙ cells_are (λ x. x.data_cells) ∙ covered.data

  -- the fields once chains are bound
  pub bound-is : IsCovered m o → (b : Image) → b ≡ with_cells b.text_cells b.data_cells n →
      b.text_cells ≡ map (settled_over n.externals (places_of n.externals symbols)) n.text_cells →
      b.data_cells ≡ map (settled_over n.externals (places_of n.externals symbols)) n.data_cells → b ≡ bound_image m o
  bound-is covered b others texts datas = search rules

  -- the heads then
  pub heads-are : (t u v : Threads) → u ≡ t → v ≡ with_heads v.heads u →
      v.heads ≡ cut_heads n.externals (places_of n.externals symbols) u.heads → v ≡ with_heads (bound_heads m o t.heads) t
  heads-are t u v same others heads = search rules

  -- the marks of what was bound, and of the mentions, take the object back
  pub marks-are : IsCovered m o → (t u : Threads) → u ≡ t → (texts datas : List Cell) (heads : List Link)
      (old new : List Mark) → old ≡ state_marks (length m.externals) m.externals (next_mentions m o) →
      texts ≡ map (settled_over n.externals (places_of n.externals symbols)) n.text_cells →
      datas ≡ map (settled_over n.externals (places_of n.externals symbols)) n.data_cells →
      heads ≡ cut_heads n.externals (places_of n.externals symbols) u.heads →
      LeavesMarks n.text_cells n.data_cells u.heads texts datas heads old new →
      NotesBound n.externals n.text_cells n.data_cells texts datas old new → TakesBack m o t.heads new
  marks-are covered t u same texts datas heads old new states te de he back few =
      taken_back m o t.heads heads texts datas back.marks
      (subst (λ (P : Type 0). P)
      (λ i. Restores (made i).text_cells (made i).data_cells (same i).heads texts datas heads back.marks) back.restores)
      (texts_are covered texts te) (datas_are covered datas de)
      (he ∙ (λ j. cut_heads (made j).externals (places_of (made j).externals (table j)) (same j).heads))
      new (back.last ∙ ap (λ (l : List Mark). l ++ back.marks) states)
      (subst (λ (P : Type 0). P)
      (λ i. NotesBound (made i).externals (made i).text_cells (made i).data_cells texts datas (states i) new) few)

-- an object that could not be bound is taken back
module _ (m n b : Image) (o : Contents) (t u v : Threads) (h : IsThreaded m t) (old new : List Mark) where
  -- the marks of an addition, put back, give the image and the chains before it
  pub undone : n ≡ entered m o → u ≡ t → b ≡ with_cells b.text_cells b.data_cells n → v ≡ with_heads v.heads u →
      length b.text_cells ≡ length m.text_cells → length b.data_cells ≡ length m.data_cells →
      old ≡ state_marks (length m.externals) m.externals (next_mentions m o) →
      LeavesMarks n.text_cells n.data_cells u.heads b.text_cells b.data_cells v.heads old new →
      (undo new b m ≡ m) × (with_heads_back new (threads_by (sizes_of m) b v) ≡ t)
  undone made same others heads tl dl states back = (
    (λ i. undo (marks i) (image i) m)
        ∙ bound_alone m o t.heads v.heads b.text_cells b.data_cells back.marks restores tl dl,
    (λ i. undo_threads (marks i) b m (threads i))
        ∙ heads_alone_back m o t h b v.heads (state_marks (length m.externals) m.externals (next_mentions m o) ++ back.marks) tl dl
        (heads_back-after_states (length m.externals) m.externals (next_mentions m o) back.marks v.heads ∙ restores.heads_are),
  )
    where
      marks : new ≡ state_marks (length m.externals) m.externals (next_mentions m o) ++ back.marks
      marks = back.last ∙ ap (λ (l : List Mark). l ++ back.marks) states

      image : b ≡ with_cells b.text_cells b.data_cells (entered m o)
      image = others ∙ ap (λ (x : Image). with_cells b.text_cells b.data_cells x) made

      threads : v ≡ with_heads v.heads t
      threads = heads ∙ ap (λ (x : Threads). with_heads v.heads x) same

      restores : Restores m.text_cells m.data_cells t.heads b.text_cells b.data_cells v.heads back.marks
      restores =
          subst (λ (P : Type 0). P) (λ i. Restores (made i).text_cells (made i).data_cells
          (same i).heads b.text_cells b.data_cells v.heads back.marks) back.restores

-- the fields once the object's own cells stand last
module _ (m b : Image) (o f : Contents) (shifts : Shifts) (bound : b ≡ bound_image m o) (file : f ≡ o)
    (moved : shifts ≡ next_shifts m o) where
  -- the image at the end of an addition is that of the longer list
  pub joined-is : (r : Image) → r ≡ with_own_cells b f shifts → r ≡ joined_image m o
  joined-is r own = own ∙ (λ i. with_own_cells (bound i) (file i) (moved i))

  -- and so are the chains
  pub joined_threads : (t v w : Threads) → v ≡ with_heads (bound_heads m o t.heads) t →
      w ≡ with_own_threads b f shifts v → w ≡ next_threads m o t
  joined_threads t v w heads own = own ∙ (λ i. with_own_threads (bound i) (file i) (moved i) (heads i))
