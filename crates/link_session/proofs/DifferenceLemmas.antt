-- The marks that an addition leaves are the difference that it makes.
use Rattle.std.proofs.Common.{◌≡◌, ◌≢◌, ◌<◌, ◌+◌, ℕ, zero, suc, Bool, true, false, not, ◌||◌, ◌&&◌, cond, List, [], ◌∷◌, ◌++◌, map, length}
use Rattle.std.proofs.{Common.{Some, slice_index_or, nat_lt, refl, sym, ap, ◌∙◌, subst, arith, rules}, lemmas.Bool.{lt-ltb, or_parts}}
use Rattle.std.proofs.{lemmas.List.length-map, lemmas.Option.slice_get_within, lemmas.Slice.Eq.bytes_eq-Decides}
use Rattle.std.specs.{Prelude.bytes_eq, Prelude.slice_get, List.AllByRecursion}
use Rattle.aout_core.specs.Contents.{Contents}
use Rattle.link_session.specs.Image.{Image, Named, image, named_states}
use Rattle.link_session.specs.Marks.{HoldCell, IsDifference, cells_marked, states_marked, same_state, state_changed, states_changed}
use Rattle.link_session.specs.Mentions.{Mention, mentions, mentions_in, names_of, names_by_first_mention, externals, place_of}
use Rattle.link_session.specs.internal.Additions.{place_in, state_for, with_mention, changes, state_mark, state_marks, settled_cell}
use Rattle.link_session.specs.{internal.Additions.next_named, internal.Restores.{HoldBound, TakesBack}}
use Rattle.link_session.specs.{internal.Threads.{next_texts, next_datas}, declared.cell.Cell.Cell, declared.state.State.State}
use Rattle.link_session.specs.{declared.mark.Mark.Mark, declared.mark.Mark.TheVariants.StateWas}
use Rattle.link_session.specs.{declared.mark.Place.TheVariants.{InText, InData}, Sessions.IsObject, States.state}
use Rattle.link_session.specs.{internal.Chains.{Link, nowhere}, internal.Updates.updated_state}
use Rattle.tool_options.specs.NameLists.{is_among, new_names}
use Rattle.link_session.proofs.MentionLemmas.{names_by_first_mention-append, place_of-append}
use Rattle.link_session.proofs.MentionedLemmas.{keys-named_states, state_for-named_states, with_mention-named_states}
use Rattle.link_session.proofs.{UpdateLemmas.{own_name, state_mention}, AdditionLemmas.{joined_image-is, next_mentions-in}}
use Rattle.link_session.proofs.{ChainLemmas.{own_number, other_number}, ListLemmas.{get_append, get_mapped, index_get}}
use Rattle.link_session.proofs.MarkedLemmas.{states_marked-append}
use Rattle.tool_options.proofs.NameListLemmas.{is_among-append}

-- Cells.

-- a cell that gets bound is a cell that changes
held : (was is : Cell) (marked : List Cell) → HoldBound was is marked → HoldCell was is marked
held was is marked h = search rules

-- a cell, and what an object that settles all cells and appends its own makes of it
cell_held : (f : Cell → Cell) (cs own new : List Cell) (marked : List Cell) → map f cs ++ own ≡ new →
    (i : ℕ) (was is : Cell) → slice_get cs i ≡ Some was → slice_get new i ≡ Some is →
    HoldBound (slice_index_or cs i nowhere) (slice_index_or (map f cs) i nowhere) marked → HoldCell was is marked
cell_held f cs own new marked e i was is there then h =
    let settled : slice_get (map f cs) i ≡ Some (f was) = get_mapped f cs i was there in
    let joined : slice_get new i ≡ Some (f was) =
    ap (λ (l : List Cell). slice_get l i) (sym e) ∙ get_append (map f cs) own i (f was) settled in
    let same : f was ≡ is = (let both : Some (f was) ≡ Some is = sym joined ∙ then in cc) in
    held was is marked (subst (λ (P : Type 0). P)
    (λ j. HoldBound (index_get cs i was nowhere there j) ((index_get (map f cs) i (f was) nowhere settled ∙ same) j) marked) h)

-- States.

-- a state is the same as itself, by the test
pub own_state : (s : State) → same_state s s ≡ true
own_state s = search rules

-- a mention changes a state if and only if the state then is another
changes_is : (was says : State) → changes was says ≡ not (same_state was (updated_state was says))
changes_is was says = search rules

-- Names.

-- a name that has the place of another is that name
one_at_place : (names : List (List ℕ)) (other name : List ℕ) (i : ℕ) → slice_get names i ≡ Some name →
    place_of other names ≡ i → other ≡ name
one_at_place [] other name i at e = absurd (cc)
one_at_place (n ∷ ns) other name i at e = by_test (bytes_eq other n) refl i at e (λ j. one_at_place ns other name j)
  where
    by_test : (t : Bool) → bytes_eq other n ≡ t → (i : ℕ) → slice_get (n ∷ ns) i ≡ Some name → cond t 0 (place_of other ns + 1) ≡ i →
        ((j : ℕ) → slice_get ns j ≡ Some name → place_of other ns ≡ j → other ≡ name) → other ≡ name
    by_test true te zero at e rest = (bytes_eq-Decides other n).0 te ∙ (let same : n ≡ name = cc in same)
    by_test true te (suc i) at e rest = absurd (omega arith)
    by_test false te zero at e rest = absurd (omega arith)
    by_test false te (suc i) at e rest = rest i at (omega arith)

is_there : (names : List (List ℕ)) (name : List ℕ) (i : ℕ) → slice_get names i ≡ Some name → is_among names name ≡ true
is_there [] name i at = absurd (cc)
is_there (n ∷ ns) name zero at = search rules
is_there (n ∷ ns) name (suc i) at = search (rules, is_there ns name i at)

-- a new name was not seen
not_seen : (seen xs : List (List ℕ)) (name : List ℕ) → is_among (new_names seen xs) name ≡ true → is_among seen name ≡ false
not_seen seen [] name h = absurd (cc)
not_seen seen (x ∷ xs) name h =
    by_test (is_among seen x) refl h (λ e. (or_parts (is_among seen name) (is_among (x ∷ []) name)
    (sym (is_among-append seen (x ∷ []) name) ∙ not_seen (seen ++ x ∷ []) xs name e)).0)
  where
    by_name : (u : Bool) → bytes_eq name x ≡ u → is_among seen x ≡ false → (u || is_among (new_names (seen ++ x ∷ []) xs) name) ≡ true →
        (is_among (new_names (seen ++ x ∷ []) xs) name ≡ true → is_among seen name ≡ false) → is_among seen name ≡ false
    by_name true ue e k later = ap (is_among seen) ((bytes_eq-Decides name x).0 ue) ∙ e
    by_name false ue e k later = later k

    by_test : (t : Bool) → is_among seen x ≡ t →
        is_among (cond t (new_names (seen ++ x ∷ []) xs) (x ∷ new_names (seen ++ x ∷ []) xs)) name ≡ true →
        (is_among (new_names (seen ++ x ∷ []) xs) name ≡ true → is_among seen name ≡ false) → is_among seen name ≡ false
    by_test true e k later = later k
    by_test false e k later = by_name (bytes_eq name x) refl e k later

-- each name is at its place
place_there : (seen xs : List (List ℕ)) (i : ℕ) (name : List ℕ) → slice_get (new_names seen xs) i ≡ Some name →
    place_of name (new_names seen xs) ≡ i
place_there seen [] i name at = absurd (cc)
place_there seen (x ∷ xs) i name at = by_test (is_among seen x) refl i at (λ j. place_there (seen ++ x ∷ []) xs j name)
  where
    by_test : (t : Bool) → is_among seen x ≡ t → (i : ℕ) →
        slice_get (cond t (new_names (seen ++ x ∷ []) xs) (x ∷ new_names (seen ++ x ∷ []) xs)) i ≡ Some name →
        ((j : ℕ) → slice_get (new_names (seen ++ x ∷ []) xs) j ≡ Some name → place_of name (new_names (seen ++ x ∷ []) xs) ≡ j) →
        place_of name (cond t (new_names (seen ++ x ∷ []) xs) (x ∷ new_names (seen ++ x ∷ []) xs)) ≡ i
    by_test true e i at later = later i at
    by_test false e zero at later =
        let same : x ≡ name = cc in
        ap (λ (t : Bool). cond t 0 (place_of name (new_names (seen ++ x ∷ []) xs) + 1)) (ap (bytes_eq name) same ∙ own_name name)
    by_test false e (suc i) at later =
        let rest = later i at in
        let fresh = not_seen (seen ++ x ∷ []) xs name (is_there (new_names (seen ++ x ∷ []) xs) name i at) in
        let other = (or_parts (bytes_eq name x) false
        (or_parts (is_among seen name) (is_among (x ∷ []) name) (sym (is_among-append seen (x ∷ []) name) ∙ fresh)).1).0 in
        ap (λ (t : Bool). cond t 0 (place_of name (new_names (seen ++ x ∷ []) xs) + 1)) other
        ∙ (let sum : place_of name (new_names (seen ++ x ∷ []) xs) + 1 ≡ suc i = omega arith in sum)

-- Marks of states.

module _ (kept i : ℕ) (name : List ℕ) (low : i < kept) where
  -- one mention
  mention_noted : (earlier : List Mention) (m : Mention) → slice_get (names_by_first_mention earlier) i ≡ Some name →
      place_of name (names_by_first_mention earlier) ≡ i →
      states_marked i (state_mark kept (named_states earlier) m) ≡ state_changed earlier m name
  mention_noted earlier m at place = by_test (bytes_eq name m.name) refl
    where
      place_is : (x : List ℕ) → place_in (named_states earlier) x ≡ place_of x (names_by_first_mention earlier)
      place_is x = ap (place_of x) (keys-named_states earlier)

      -- the state then
      next : (t : Bool) → bytes_eq name m.name ≡ t →
          state (earlier ++ m ∷ []) name ≡ cond t (updated_state (state earlier name) m.says) (state earlier name)
      next t e = state_mention earlier m name ∙ ap (λ (u : Bool). cond u (updated_state (state earlier name) m.says) (state earlier name)) e

      own : (u : Bool) → states_marked i (cond u (StateWas i (state earlier name) ∷ []) []) ≡ cond (not u) [] (state earlier name ∷ [])
      own true = ap (λ (t : Bool). cond t (state earlier name ∷ []) []) (own_number i)
      own false = refl

      twice : (u : Bool) → cond (not (not u)) [] (state earlier name ∷ []) ≡ cond u [] (state earlier name ∷ [])
      twice true = refl
      twice false = refl

      none : (u : Bool) → place_in (named_states earlier) m.name ≢ i → states_marked i
          (cond u (StateWas (place_in (named_states earlier) m.name) (state_for (named_states earlier) m.name) ∷ []) []) ≡ []
      none true other =
          ap (λ (t : Bool). cond t (state_for (named_states earlier) m.name ∷ []) [])
          (other_number i (place_in (named_states earlier) m.name) (λ e. other (sym e)))
      none false other = refl

      by_test : (t : Bool) → bytes_eq name m.name ≡ t →
          states_marked i (state_mark kept (named_states earlier) m) ≡ state_changed earlier m name
      by_test true e =
          let same : name ≡ m.name = (bytes_eq-Decides name m.name).0 e in
          let here : place_in (named_states earlier) m.name ≡ i =
          place_is m.name ∙ ap (λ (x : List ℕ). place_of x (names_by_first_mention earlier)) (sym same) ∙ place in
          let was : state_for (named_states earlier) m.name ≡ state earlier name =
          state_for-named_states earlier m.name ∙ ap (state earlier) (sym same) in
          let lt : nat_lt i kept ≡ true = lt-ltb i kept low in
          (λ j. states_marked i (cond (nat_lt (here j) kept && changes (was j) m.says) (StateWas (here j) (was j) ∷ []) []))
          ∙ (λ j. states_marked i (cond (lt j && changes_is (state earlier name) m.says j) (StateWas i (state earlier name) ∷ []) []))
          ∙ own (not (same_state (state earlier name) (updated_state (state earlier name) m.says)))
          ∙ twice (same_state (state earlier name) (updated_state (state earlier name) m.says))
          ∙ ap (λ (s : State). cond (same_state (state earlier name) s) [] (state earlier name ∷ [])) (sym (next true e))
      by_test false e =
          none (nat_lt (place_in (named_states earlier) m.name) kept && changes (state_for (named_states earlier) m.name) m.says)
          (λ h. let same : m.name ≡ name = one_at_place (names_by_first_mention earlier) m.name name i at (sym (place_is m.name) ∙ h) in
          absurd (let yes : bytes_eq name m.name ≡ true = ap (bytes_eq name) same ∙ own_name name in
          let bad : true ≡ false = sym yes ∙ e in cc))
          ∙ sym (ap (λ (s : State). cond (same_state (state earlier name) s) [] (state earlier name ∷ [])) (next false e)
          ∙ ap (λ (t : Bool). cond t [] (state earlier name ∷ [])) (own_state (state earlier name)))

  -- several
  mentions_noted : (earlier ms : List Mention) → slice_get (names_by_first_mention earlier) i ≡ Some name →
      place_of name (names_by_first_mention earlier) ≡ i →
      states_marked i (state_marks kept (named_states earlier) ms) ≡ states_changed earlier ms name
  mentions_noted earlier [] at place = refl
  mentions_noted earlier (m ∷ ms) at place =
      states_marked-append i (state_mark kept (named_states earlier) m) (state_marks kept (with_mention (named_states earlier) m) ms)
      ∙ ap (λ (es : Named). states_marked i (state_mark kept (named_states earlier) m)
      ++ states_marked i (state_marks kept es ms)) (with_mention-named_states earlier m)
      ∙ (λ j. mention_noted earlier m at place j ++ mentions_noted (earlier ++ m ∷ []) ms
      (ap (λ (l : List (List ℕ)). slice_get l i) names
      ∙ get_append (names_by_first_mention earlier) (new_names (names_of earlier) (names_of (m ∷ []))) i name at)
      (ap (place_of name) names ∙ place_of-append (names_by_first_mention earlier)
      (new_names (names_of earlier) (names_of (m ∷ []))) name (is_there (names_by_first_mention earlier) name i at) ∙ place) j)
    where
      names : names_by_first_mention (earlier ++ m ∷ [])
          ≡ names_by_first_mention earlier ++ new_names (names_of earlier) (names_of (m ∷ []))
      names = names_by_first_mention-append earlier (m ∷ [])

-- The difference.

-- marks that take an addition back are the difference that it makes, and nothing else
pub taken_difference : (forced : List (List ℕ)) (os : List Contents) (o : Contents) (heads : List Link) (marks : List Mark) →
    AllByRecursion IsObject os → TakesBack (image forced os) o heads marks → IsDifference forced os o marks
taken_difference forced os o heads marks good b = record {
  text = λ i was is there then.
      cell_held (settled_cell (next_named (image forced os) o)) (image forced os).text_cells
      (next_texts (image forced os) o) (image forced (os ++ o ∷ [])).text_cells (cells_marked (InText i) marks)
      (ap (λ (m : Image). m.text_cells) (joined_image-is forced os o good)) i was is there then (b.cells_are (InText i));
  «data» = λ i was is there then.
      cell_held (settled_cell (next_named (image forced os) o)) (image forced os).data_cells
      (next_datas (image forced os) o) (image forced (os ++ o ∷ [])).data_cells (cells_marked (InData i) marks)
      (ap (λ (m : Image). m.data_cells) (joined_image-is forced os o good)) i was is there then (b.cells_are (InData i));
  names = λ i name there.
      b.states_are i
      ∙ ap (λ (ms : List Mention). states_marked i (state_marks (length (image forced os).externals) (image forced os).externals ms))
      (next_mentions-in forced os o good)
      ∙ mentions_noted (length (image forced os).externals) i name (kept forced os i name there) (mentions forced os)
      (mentions_in os o) there (place_there [] (names_of (mentions forced os)) i name there);
}
  where
    kept : (forced : List (List ℕ)) (os : List Contents) (i : ℕ) (name : List ℕ) →
        slice_get (externals forced os) i ≡ Some name → i < length (image forced os).externals
    kept forced os i name there =
        let below = slice_get_within (externals forced os) i name there in
        let same = length-map {B = List ℕ × State} (externals forced os) (λ n. (n, state (mentions forced os) n)) in omega arith
