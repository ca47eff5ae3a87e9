-- All chains of an image: while a name is bound, while names are added, and while the cells of an object are put last.
use Rattle.std.proofs.Common.{◌≡◌, ◌≢◌, ◌<◌, ◌+◌, ◌||◌, ◌⊎◌, ℕ, zero, suc, Bool, true, false, List, [], ◌∷◌, ◌++◌, map, length, Some, None}
use Rattle.std.proofs.Common.{slice_index_or, slice_set, refl, sym, ap, ◌∙◌, subst, arith, length-append, rules, append_assoc, append-nil}
use Rattle.std.proofs.lemmas.Bool.{cases_eq}
use Rattle.std.specs.{Prelude.⊤, List.AllByRecursion}
use Rattle.aout_core.specs.declared.symbol.Segment.{Segment}
use Rattle.link_session.specs.internal.Chains.{Link, IsChain, is_on, AreApart, IsWithin, IsBoundTo, bound_where, bound_if, marks_of}
use Rattle.link_session.specs.internal.Chains.{waits_at, FindsWaiting, Waits, head_for, with_head, threaded, AreChained}
use Rattle.link_session.specs.{declared.cell.Cell.Cell, declared.cell.Target.Target, declared.state.State.TheVariants.Defined}
use Rattle.link_session.specs.{declared.mark.Mark.Mark, declared.mark.Place.Place, declared.mark.Place.TheVariants.{InText, InData}}
use Rattle.link_session.specs.{Image.{Named, state_at}, internal.Settled.settled_at}
use Rattle.link_session.specs.declared.cell.Target.TheVariants as targets
use Rattle.link_session.proofs.ChainLemmas.{length-bound_where, on_either, apart_parts, apart_from, chain-unique, none_ahead}
use Rattle.link_session.proofs.WaitLemmas.{bound_on_chain, rest_finds, other_finds}
use Rattle.link_session.proofs.{PushLemmas.{push_text, pass_text, push_data, pass_data}, ListLemmas.all_split, CountLemmas.waits_is}

-- the same also where there is no head, if there is nothing to put then
index_set_link : (heads : List Link) (k : ℕ) (link : Link) → (slice_index_or heads k None ≡ None → link ≡ None) →
    slice_index_or (slice_set heads k link) k None ≡ link
index_set_link [] k link h = sym (h refl)
index_set_link (y ∷ heads) zero link h = refl
index_set_link (y ∷ heads) (suc k) link h = index_set_link heads k link h

index_set_other : {A : Type 0} (xs : List A) (k j : ℕ) (x d : A) → k ≢ j → slice_index_or (slice_set xs k x) j d ≡ slice_index_or xs j d
index_set_other xs k j x d ne = search rules

index_more : {A : Type 0} (xs : List A) (k : ℕ) (d : A) → slice_index_or (xs ++ d ∷ []) k d ≡ slice_index_or xs k d
index_more [] zero d = refl
index_more [] (suc k) d = refl
index_more (y ∷ xs) zero d = refl
index_more (y ∷ xs) (suc k) d = index_more xs k d

nothing_after : (done rest : List Place) → done ++ rest ≡ [] → rest ≡ []
nothing_after [] rest e = e
nothing_after (p ∷ done) rest e = absurd (cc)

module _ (texts datas : List Cell) (ts ds heads : List Link) (a : AreChained texts datas ts ds heads) where
  -- the first part of the chain of a name is bound, and the chain begins after it
  module _ (k : ℕ) (segment : Segment) (offset : ℕ) (next : Link) (marks : List Mark) (new_texts new_datas : List Cell)
      (new_marks : List Mark)
      (w : IsBoundTo ts ds (slice_index_or heads k None) next segment offset texts datas marks new_texts new_datas new_marks) where
    all_places : (a.each k).places ≡ w.done ++ w.rest
    all_places = chain-unique ts ds (slice_index_or heads k None) (a.each k).places (w.done ++ w.rest) (a.each k).visits w.visits

    text_told : FindsWaiting (λ i. is_on (w.done ++ w.rest) (InText i)) k texts
    text_told = subst (λ (ps : List Place). FindsWaiting (λ i. is_on ps (InText i)) k texts) all_places (a.each k).text

    data_told : FindsWaiting (λ i. is_on (w.done ++ w.rest) (InData i)) k datas
    data_told = subst (λ (ps : List Place). FindsWaiting (λ i. is_on ps (InData i)) k datas) all_places (a.each k).data

    abbrev bound_texts : List Cell
    bound_texts = bound_where (λ i. is_on w.done (InText i)) segment offset texts

    abbrev bound_datas : List Cell
    bound_datas = bound_where (λ i. is_on w.done (InData i)) segment offset datas

    inside_still : (ps : List Place) → AllByRecursion (IsWithin (length texts) (length datas)) ps →
        AllByRecursion (IsWithin (length bound_texts) (length bound_datas)) ps
    inside_still ps h = search (rules, length-bound_where)

    on_all : (p : Place) → is_on w.done p ≡ true → is_on (w.done ++ w.rest) p ≡ true
    on_all p e = on_either w.done w.rest p ∙ ap (λ (t : Bool). t || is_on w.rest p) e

    on_rest : (p : Place) → is_on w.done p ≡ false → is_on w.rest p ≡ is_on (w.done ++ w.rest) p
    on_rest p e = sym (on_either w.done w.rest p ∙ ap (λ (t : Bool). t || is_on w.rest p) e)

    own_chain : Waits ts ds next bound_texts bound_datas k
    own_chain = record {
      places = w.rest;
      visits = w.ahead;
      apart = (apart_parts w.done w.rest w.apart).1;
      inside = inside_still w.rest (all_split (IsWithin (length texts) (length datas)) w.done w.rest w.inside).1;
      text =
          rest_finds segment offset k (λ i. is_on w.done (InText i)) (λ i. is_on (w.done ++ w.rest) (InText i))
          (λ i. is_on w.rest (InText i))
          (λ i. apart_from w.done w.rest w.apart (InText i)) (λ i. on_rest (InText i)) texts text_told;
      «data» =
          rest_finds segment offset k (λ i. is_on w.done (InData i)) (λ i. is_on (w.done ++ w.rest) (InData i))
          (λ i. is_on w.rest (InData i))
          (λ i. apart_from w.done w.rest w.apart (InData i)) (λ i. on_rest (InData i)) datas data_told;
    }

    other_chain : (j : ℕ) → k ≢ j → Waits ts ds (slice_index_or heads j None) bound_texts bound_datas j
    other_chain j ne = record {
      places = (a.each j).places;
      visits = (a.each j).visits;
      apart = (a.each j).apart;
      inside = inside_still (a.each j).places (a.each j).inside;
      text =
          other_finds segment offset k j ne (λ i. is_on w.done (InText i)) (λ i. is_on (w.done ++ w.rest) (InText i))
          (λ i. is_on (a.each j).places (InText i))
          (λ i. on_all (InText i)) texts text_told (a.each j).text;
      «data» =
          other_finds segment offset k j ne (λ i. is_on w.done (InData i)) (λ i. is_on (w.done ++ w.rest) (InData i))
          (λ i. is_on (a.each j).places (InData i))
          (λ i. on_all (InData i)) datas data_told (a.each j).data;
    }

    head_set : slice_index_or (slice_set heads k next) k None ≡ next
    head_set = search (rules, index_set_link, none_ahead, nothing_after)

    by_order : (j : ℕ) → (k ≡ j) ⊎ (k ≡ j → ⊥) → Waits ts ds (slice_index_or (slice_set heads k next) j None) bound_texts bound_datas j
    by_order j h = search (rules, head_set, own_chain, index_set_other, other_chain)

    bound_chained : AreChained bound_texts bound_datas ts ds (slice_set heads k next)
    bound_chained = search (rules, length-bound_where, by_order, cases_eq)

    -- while a chain is bound, its head may be set to the next place at any time, and all chains are right
    pub cut_to : AreChained new_texts new_datas ts ds (slice_set heads k next)
    cut_to = subst (λ (P : Type 0). P) (λ i. AreChained (sym w.text i) (sym w.data i) ts ds (slice_set heads k next)) bound_chained

  -- the whole chain is bound, and cut
  pub bound_whole : (k : ℕ) (segment : Segment) (offset : ℕ) →
      IsBoundTo ts ds (slice_index_or heads k None) None segment offset texts datas [] (map (bound_if k segment offset) texts)
      (map (bound_if k segment offset) datas) (marks_of texts datas (a.each k).places)
  bound_whole k segment offset = record {
    done = (a.each k).places;
    rest = [];
    visits = subst (IsChain ts ds (slice_index_or heads k None)) (sym (append-nil (a.each k).places)) (a.each k).visits;
    ahead = refl;
    apart = subst AreApart (sym (append-nil (a.each k).places)) (a.each k).apart;
    inside = subst (AllByRecursion (IsWithin (length texts) (length datas))) (sym (append-nil (a.each k).places)) (a.each k).inside;
    text = sym (bound_on_chain segment offset k (λ i. is_on (a.each k).places (InText i)) texts (a.each k).text);
    «data» = sym (bound_on_chain segment offset k (λ i. is_on (a.each k).places (InData i)) datas (a.each k).data);
    marked = refl;
  }

  cut_one : (k : ℕ) (segment : Segment) (offset : ℕ) → AreChained (map (bound_if k segment offset) texts)
      (map (bound_if k segment offset) datas) ts ds (slice_set heads k None)
  cut_one k segment offset =
      cut_to k segment offset None [] (map (bound_if k segment offset) texts) (map (bound_if k segment offset) datas)
      (marks_of texts datas (a.each k).places) (bound_whole k segment offset)

  -- the same by the state of the name
  pub cut_named : (es : Named) (k : ℕ) (segment : Segment) (offset : ℕ) → state_at es k ≡ Defined segment offset →
      AreChained (map (settled_at es k) texts) (map (settled_at es k) datas) ts ds (slice_set heads k None)
  cut_named es k segment offset at = grind (arith, cut_one k segment offset)

  -- one more name has an empty chain
  pub one_more_head : AreChained texts datas ts ds (heads ++ None ∷ [])
  one_more_head = search (rules, index_more)

-- a cell that waits waits for one of so many names
abbrev pub WaitsBelow : ℕ → Target → Type 0
WaitsBelow n (targets.External k) = k < n
WaitsBelow n _ = ⊤

head_there : (heads : List Link) (k : ℕ) (link : Link) (t : Target) → t ≡ targets.External k →
    WaitsBelow (length heads) t → slice_index_or (with_head t link heads) k None ≡ link
head_there heads k link t e h = search rules

head_elsewhere : (heads : List Link) (k : ℕ) (link : Link) (t : Target) → waits_at k t ≡ false →
    slice_index_or (with_head t link heads) k None ≡ slice_index_or heads k None
head_elsewhere heads k link t e = search rules

-- a cell that is put in front of its chain adds no external
pub length-with_head : (heads : List Link) (t : Target) (link : Link) → length (with_head t link heads) ≡ length heads
length-with_head heads t link = search rules

module _ (texts datas : List Cell) (ts ds heads : List Link) (c : Cell) (a : AreChained texts datas ts ds heads)
    (h : WaitsBelow (length heads) c.target) where
  -- a cell of text is put last, and in front of its chain
  pub one_text : AreChained (texts ++ c ∷ []) datas (ts ++ head_for c.target heads ∷ []) ds
      (with_head c.target (Some (InText (length texts))) heads)
  one_text = record {
    text = (let e = a.text in omega (arith, length-append ts (head_for c.target heads ∷ []), length-append texts (c ∷ [])));
    «data» = a.data;
    each = λ k. by_test k (waits_at k c.target) refl;
  }
    where
      by_test : (k : ℕ) (t : Bool) → waits_at k c.target ≡ t → Waits (ts ++ head_for c.target heads ∷ []) ds
          (slice_index_or (with_head c.target (Some (InText (length texts))) heads) k None) (texts ++ c ∷ []) datas k
      by_test k true e =
          let name = waits_is k c.target e in
          subst (λ (P : Type 0). P) (λ i. Waits (ts ++ sym (ap (λ (t : Target). head_for t heads) name) i ∷ []) ds
          (sym (head_there heads k (Some (InText (length texts))) c.target name h) i) (texts ++ c ∷ []) datas k)
          (push_text ts ds (slice_index_or heads k None) texts datas k c (a.each k) a.text e)
      by_test k false e =
          subst (λ (l : Link). Waits (ts ++ head_for c.target heads ∷ []) ds l (texts ++ c ∷ []) datas k)
          (sym (head_elsewhere heads k (Some (InText (length texts))) c.target e))
          (pass_text ts ds (slice_index_or heads k None) texts datas k c (a.each k) (head_for c.target heads) a.text e)

  -- the same for a cell of data
  pub one_data : AreChained texts (datas ++ c ∷ []) ts (ds ++ head_for c.target heads ∷ [])
      (with_head c.target (Some (InData (length datas))) heads)
  one_data = search (rules, length-append, waits_is, head_there, push_data, head_elsewhere, pass_data)

-- all cells of text of an object are put last
pub all_text : (texts datas : List Cell) (ts ds heads : List Link) (cs : List Cell) →
    AreChained texts datas ts ds heads → AllByRecursion (λ c. WaitsBelow (length heads) c.target) cs →
    AreChained (texts ++ cs) datas (ts ++ (threaded (λ i. InText i) (length texts) cs heads).0) ds
    (threaded (λ i. InText i) (length texts) cs heads).1
all_text texts datas ts ds heads [] a h = search rules
all_text texts datas ts ds heads (c ∷ cs) a h =
    let p : Place = InText (length texts) in
    let links : List Link → List Link = λ l. l in
    let n : length (texts ++ c ∷ []) ≡ length texts + 1 = length-append texts (c ∷ []) in
    subst (λ (P : Type 0). P) (λ i. AreChained (append_assoc texts (c ∷ []) cs i) datas
    ((ap (λ (m : ℕ). (ts ++ head_for c.target heads ∷ [])
    ++ (threaded (λ j. InText j) m cs (with_head c.target (Some (InText (length texts))) heads)).0) n
    ∙ append_assoc ts (head_for c.target heads ∷ [])
    (threaded (λ j. InText j) (length texts + 1) cs (with_head c.target (Some (InText (length texts))) heads)).0) i)
    ds (threaded (λ j. InText j) (n i) cs (with_head c.target (Some (InText (length texts))) heads)).1)
    (all_text (texts ++ c ∷ []) datas (ts ++ head_for c.target heads ∷ []) ds (with_head c.target (Some p) heads) cs
    (one_text texts datas ts ds heads c a h.0)
    (subst (λ (m : ℕ). AllByRecursion (λ (x : Cell). WaitsBelow m x.target) cs) (sym (length-with_head heads c.target (Some p))) h.1))

-- the same of the cells of data
pub all_data : (texts datas : List Cell) (ts ds heads : List Link) (cs : List Cell) →
    AreChained texts datas ts ds heads → AllByRecursion (λ c. WaitsBelow (length heads) c.target) cs →
    AreChained texts (datas ++ cs) ts (ds ++ (threaded (λ i. InData i) (length datas) cs heads).0)
    (threaded (λ i. InData i) (length datas) cs heads).1
all_data texts datas ts ds heads [] a h = search rules
all_data texts datas ts ds heads (c ∷ cs) a h =
    let p : Place = InData (length datas) in
    let n : length (datas ++ c ∷ []) ≡ length datas + 1 = length-append datas (c ∷ []) in
    subst (λ (P : Type 0). P) (λ i. AreChained texts (append_assoc datas (c ∷ []) cs i) ts
    ((ap (λ (m : ℕ). (ds ++ head_for c.target heads ∷ [])
    ++ (threaded (λ j. InData j) m cs (with_head c.target (Some (InData (length datas))) heads)).0) n
    ∙ append_assoc ds (head_for c.target heads ∷ [])
    (threaded (λ j. InData j) (length datas + 1) cs (with_head c.target (Some (InData (length datas))) heads)).0) i)
    (threaded (λ j. InData j) (n i) cs (with_head c.target (Some (InData (length datas))) heads)).1)
    (all_data texts (datas ++ c ∷ []) ts (ds ++ head_for c.target heads ∷ []) (with_head c.target (Some p) heads) cs
    (one_data texts datas ts ds heads c a h.0)
    (subst (λ (m : ℕ). AllByRecursion (λ (x : Cell). WaitsBelow m x.target) cs) (sym (length-with_head heads c.target (Some p))) h.1))
