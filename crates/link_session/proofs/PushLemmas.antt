-- The chains of externals while a cell is put last, in front of its chain, and how many places a chain has.
use Rattle.std.proofs.Common.{◌≡◌, ◌<◌, ◌≤◌, ◌+◌, ℕ, suc, Bool, true, false, ◌||◌, List, [], ◌∷◌, ◌++◌, length, Some, None, slice_index_or}
use Rattle.std.proofs.Common.{refl, sym, ap, ◌∙◌, subst, arith, length-append, rules}
use Rattle.std.proofs.{Math.Seq.get_or-append_seam, lemmas.List.get_or_append_left}
use Rattle.std.specs.List.{AllByRecursion}
use Rattle.link_session.specs.internal.Chains.{Link, link_at, IsChain, is_on, IsWithin, waits_at, FindsWaiting, Waits}
use Rattle.link_session.specs.{declared.cell.Cell.Cell, declared.mark.Place.Place, declared.mark.Place.TheVariants.{InText, InData}}
use Rattle.link_session.proofs.{ListLemmas.all_map, ChainLemmas.own_number, ChainLemmas.other_number}

-- Links that grow.

chain_grown_text : (ts ds : List Link) (x : Link) (d : ℕ) (head : Link) (ps : List Place) →
    AllByRecursion (IsWithin (length ts) d) ps → IsChain ts ds head ps → IsChain (ts ++ x ∷ []) ds head ps
chain_grown_text ts ds x d head [] h c = c
chain_grown_text ts ds x d head (p ∷ ps) h c = search (rules, get_or_append_left, chain_grown_text ts ds x d (link_at ts ds p) ps h.1 c.1)

chain_grown_data : (ts ds : List Link) (x : Link) (t : ℕ) (head : Link) (ps : List Place) →
    AllByRecursion (IsWithin t (length ds)) ps → IsChain ts ds head ps → IsChain ts (ds ++ x ∷ []) head ps
chain_grown_data ts ds x t head [] h c = c
chain_grown_data ts ds x t head (p ∷ ps) h c = search (rules, get_or_append_left, chain_grown_data ts ds x t (link_at ts ds p) ps h.1 c.1)

-- Tests of cells.

finds_same : (f g : ℕ → Bool) (k : ℕ) (cs : List Cell) → ((i : ℕ) → i < length cs → f i ≡ g i) → FindsWaiting f k cs → FindsWaiting g k cs
finds_same f g k [] same h = tt
finds_same f g k (c ∷ cs) same h =
    (sym (same 0 (omega arith)) ∙ h.0, finds_same (λ i. f (suc i)) (λ i. g (suc i)) k cs (λ i lt. same (suc i) (omega arith)) h.1)

finds_push : (f : ℕ → Bool) (k : ℕ) (cs : List Cell) (c : Cell) → FindsWaiting f k cs → f (length cs) ≡ waits_at k c.target →
    FindsWaiting f k (cs ++ c ∷ [])
finds_push f k [] c h e = (e, tt)
finds_push f k (x ∷ cs) c h e = (h.0, finds_push (λ i. f (suc i)) k cs c h.1 e)

-- no cell waits for the external
abbrev pub NoneWaits : ℕ → List Cell → Type 0
NoneWaits k cs = AllByRecursion (λ c. waits_at k c.target ≡ false) cs

none_finds : (k : ℕ) (cs : List Cell) → NoneWaits k cs → FindsWaiting (λ i. false) k cs
none_finds k [] h = tt
none_finds k (c ∷ cs) h = (sym h.0, none_finds k cs h.1)

-- a new name has an empty chain
pub new_chain : (ts ds : List Link) (texts datas : List Cell) (k : ℕ) → NoneWaits k texts → NoneWaits k datas →
    Waits ts ds None texts datas k
new_chain ts ds texts datas k t d = search (rules, none_finds)

-- Places after the last cell.

new_text : (t d : ℕ) (ps : List Place) → AllByRecursion (IsWithin t d) ps → is_on ps (InText t) ≡ false
new_text t d [] h = refl
new_text t d (p ∷ ps) h = search (rules, other_number, new_text t d ps h.1)

new_data : (t d : ℕ) (ps : List Place) → AllByRecursion (IsWithin t d) ps → is_on ps (InData d) ≡ false
new_data t d [] h = refl
new_data t d (p ∷ ps) h = search (rules, other_number, new_data t d ps h.1)

wider : (t d u v : ℕ) → t ≤ u → d ≤ v → (p : Place) → IsWithin t d p → IsWithin u v p
wider t d u v h k p lt = search rules

module _ (ts ds : List Link) (head : Link) (texts datas : List Cell) (k : ℕ) (c : Cell) (w : Waits ts ds head texts datas k) where
  more_text : length (texts ++ c ∷ []) ≡ length texts + 1
  more_text = length-append texts (c ∷ [])

  more_data : length (datas ++ c ∷ []) ≡ length datas + 1
  more_data = length-append datas (c ∷ [])

  -- a cell of text that waits for the external is put in front of its chain
  pub push_text : length ts ≡ length texts → waits_at k c.target ≡ true →
      Waits (ts ++ head ∷ []) ds (Some (InText (length texts))) (texts ++ c ∷ []) datas k
  push_text long waits =
      let within = subst (λ (n : ℕ). AllByRecursion (IsWithin n (length datas)) w.places) (sym long) w.inside in
      let seam : link_at (ts ++ head ∷ []) ds (InText (length texts)) ≡ head =
      ap (λ (n : ℕ). slice_index_or (ts ++ head ∷ []) n None) (sym long) ∙ get_or-append_seam ts head [] None in record {
        places = InText (length texts) ∷ w.places;
        visits = (
          refl,
          subst (λ (l : Link). IsChain (ts ++ head ∷ []) ds l w.places) (sym seam)
              (chain_grown_text ts ds head (length datas) head w.places within w.visits),
        );
        apart = (new_text (length texts) (length datas) w.places w.inside, w.apart);
        inside = (
          let more = more_text in omega arith,
          all_map (IsWithin (length texts) (length datas)) (IsWithin (length (texts ++ c ∷ [])) (length datas))
              (wider (length texts) (length datas) (length (texts ++ c ∷ [])) (length datas)
              (let more = more_text in omega arith) (omega arith)) w.places w.inside,
        );
        text = finds_push (λ i. is_on (InText (length texts) ∷ w.places) (InText i)) k texts c
            (finds_same (λ i. is_on w.places (InText i)) (λ i. is_on (InText (length texts) ∷ w.places) (InText i)) k texts
            (λ i lt. let other = other_number i (length texts) (λ e. omega arith) in
            ap (λ (t : Bool). t || is_on w.places (InText i)) (sym other)) w.text)
            (ap (λ (t : Bool). t || is_on w.places (InText (length texts))) (own_number (length texts)) ∙ sym waits);
        «data» = w.data;
      }

  -- one that does not leaves it as it is
  pub pass_text : (x : Link) → length ts ≡ length texts → waits_at k c.target ≡ false →
      Waits (ts ++ x ∷ []) ds head (texts ++ c ∷ []) datas k
  pass_text x long waits =
      let within = subst (λ (n : ℕ). AllByRecursion (IsWithin n (length datas)) w.places) (sym long) w.inside in record {
        places = w.places;
        visits = chain_grown_text ts ds x (length datas) head w.places within w.visits;
        apart = w.apart;
        inside =
            all_map (IsWithin (length texts) (length datas)) (IsWithin (length (texts ++ c ∷ [])) (length datas))
            (wider (length texts) (length datas) (length (texts ++ c ∷ [])) (length datas)
            (let more = more_text in omega arith) (omega arith)) w.places w.inside;
        text =
            finds_push (λ i. is_on w.places (InText i)) k texts c w.text
            (new_text (length texts) (length datas) w.places w.inside ∙ sym waits);
        «data» = w.data;
      }

  -- the same for a cell of data
  pub push_data : length ds ≡ length datas → waits_at k c.target ≡ true →
      Waits ts (ds ++ head ∷ []) (Some (InData (length datas))) texts (datas ++ c ∷ []) k
  push_data long waits =
      let within = subst (λ (n : ℕ). AllByRecursion (IsWithin (length texts) n) w.places) (sym long) w.inside in
      let seam : link_at ts (ds ++ head ∷ []) (InData (length datas)) ≡ head =
      ap (λ (n : ℕ). slice_index_or (ds ++ head ∷ []) n None) (sym long) ∙ get_or-append_seam ds head [] None in record {
        places = InData (length datas) ∷ w.places;
        visits = (
          refl,
          subst (λ (l : Link). IsChain ts (ds ++ head ∷ []) l w.places) (sym seam)
              (chain_grown_data ts ds head (length texts) head w.places within w.visits),
        );
        apart = (new_data (length texts) (length datas) w.places w.inside, w.apart);
        inside = (
          let more = more_data in omega arith,
          all_map (IsWithin (length texts) (length datas)) (IsWithin (length texts) (length (datas ++ c ∷ [])))
              (wider (length texts) (length datas) (length texts) (length (datas ++ c ∷ [])) (omega arith)
              (let more = more_data in omega arith)) w.places w.inside,
        );
        text = w.text;
        «data» = finds_push (λ i. is_on (InData (length datas) ∷ w.places) (InData i)) k datas c
            (finds_same (λ i. is_on w.places (InData i)) (λ i. is_on (InData (length datas) ∷ w.places) (InData i)) k datas
            (λ i lt. let other = other_number i (length datas) (λ e. omega arith) in
            ap (λ (t : Bool). t || is_on w.places (InData i)) (sym other)) w.data)
            (ap (λ (t : Bool). t || is_on w.places (InData (length datas))) (own_number (length datas)) ∙ sym waits);
      }

  -- the same of a cell of data
  pub pass_data : (x : Link) → length ds ≡ length datas → waits_at k c.target ≡ false →
      Waits ts (ds ++ x ∷ []) head texts (datas ++ c ∷ []) k
  pass_data x long waits =
      let within = subst (λ (n : ℕ). AllByRecursion (IsWithin (length texts) n) w.places) (sym long) w.inside in record {
        places = w.places;
        visits = chain_grown_data ts ds x (length texts) head w.places within w.visits;
        apart = w.apart;
        inside =
            all_map (IsWithin (length texts) (length datas)) (IsWithin (length texts) (length (datas ++ c ∷ [])))
            (wider (length texts) (length datas) (length texts) (length (datas ++ c ∷ [])) (omega arith)
            (let more = more_data in omega arith)) w.places w.inside;
        text = w.text;
        «data» =
            finds_push (λ i. is_on w.places (InData i)) k datas c w.data
            (new_data (length texts) (length datas) w.places w.inside ∙ sym waits);
      }
