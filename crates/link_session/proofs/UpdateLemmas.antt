-- The states, the names and the multiples after one more mention.
use Rattle.std.proofs.Common.{◌≡◌, ℕ, ◌+◌, Bool, true, false, cond, List, [], ◌∷◌, ◌++◌, map, Some, None, refl, ◌∙◌, ap, arith, add-one}
use Rattle.std.proofs.{Common.rules, lemmas.Bool.{or_left, or_right, or_parts}, lemmas.List.map-append, lemmas.List.Sums.sum_by-append}
use Rattle.std.proofs.lemmas.Slice.Eq.{bytes_eq-Decides}
use Rattle.std.specs.Prelude.{bytes_eq}
use Rattle.aout_core.specs.{declared.symbol.Segment.Segment, Contents.Contents}
use Rattle.aout_core.specs.declared.symbol.Segment.TheVariants as segments
use Rattle.link_session.specs.Mentions.{Mention, mentions_in, mentions, names_of, names_by_first_mention, place_of}
use Rattle.link_session.specs.States.{definition_by, first_definition, wanted_size, state, is_definition, multiple_names}
use Rattle.link_session.specs.{declared.state.State.State, declared.state.State.TheVariants.Wanted, Starts.{size_of, total}, Cells.cells_in}
use Rattle.link_session.specs.{Image.{named_states, image_by, image}, Undo.with_state, internal.Updates.{updated_state, clashes}}
use Rattle.tool_options.specs.NameLists.{is_among, new_names}
use Rattle.tool_options.proofs.NameListLemmas.{is_among-append}
use Rattle.link_session.proofs.MentionLemmas.{mentions_push, names_by_first_mention-append}
use Rattle.link_session.proofs.StateLemmas.{first_definition-append, wanted_size-append}
use Rattle.link_session.proofs.{CellLemmas.cells_push, MultipleLemmas.multiple_names-append}

-- the state of a name after one more mention
pub state_mention : (ms : List Mention) (m : Mention) (name : List ℕ) →
    state (ms ++ m ∷ []) name ≡ cond (bytes_eq name m.name) (updated_state (state ms name) m.says) (state ms name)
state_mention ms m name = search (rules, first_definition-append, wanted_size-append)

-- the first definition of a name can be read off its state
pub definition_of : (ms : List Mention) (name : List ℕ) → first_definition ms name ≡ definition_by (state ms name)
definition_of ms name = search rules

-- a definition is the same as itself, by the test
pub own_definition : (segment : Segment) (offset : ℕ) → is_definition segment offset (Some (segment, offset)) ≡ true
own_definition segment offset = search rules

-- a name is the same as itself, by the test
pub own_name : (name : List ℕ) → bytes_eq name name ≡ true
own_name name = (bytes_eq-Decides name name).1 refl

-- the multiples after one more mention
pub multiples_mention : (ms : List Mention) (m : Mention) →
    multiple_names (ms ++ m ∷ []) ≡ multiple_names ms ++ cond (clashes (state ms m.name) m.says) (m.name ∷ []) []
multiples_mention ms m = search (rules, multiple_names-append, own_definition, definition_of, state_mention, own_name)

-- the test of two names may be turned round
pub bytes_eq_sym : (a b : List ℕ) → bytes_eq a b ≡ bytes_eq b a
bytes_eq_sym a b = search rules

-- a name that is seen is not new
pub never_new : (seen xs : List (List ℕ)) (k : List ℕ) → is_among seen k ≡ true → is_among (new_names seen xs) k ≡ false
never_new seen [] k h = refl
never_new seen (x ∷ xs) k h = search (
  rules,
  is_among-append,
  or_left,
  bytes_eq-Decides,
  never_new (seen ++ x ∷ []) xs k (is_among-append seen (x
      ∷ []) k ∙ or_left _ _ h),
)

-- one state among those of the names
abbrev with_one : (List ℕ → State) → List ℕ → State → List ℕ → State
with_one f k u n = cond (bytes_eq n k) u (f n)

none_changed : (f : List ℕ → State) (k : List ℕ) (u : State) (ns : List (List ℕ)) → is_among ns k ≡ false →
    map {B = List ℕ × State} (λ n. (n, with_one f k u n)) ns ≡ map {B = List ℕ × State} (λ n. (n, f n)) ns
none_changed f k u [] h = refl
none_changed f k u (n ∷ ns) h =
    let parts = or_parts (bytes_eq k n) (is_among ns k) h in
    let other : bytes_eq n k ≡ false = bytes_eq_sym n k ∙ parts.0 in
    let rest = none_changed f k u ns parts.1 in
    rw (other, rest) refl

one_changed : (f : List ℕ → State) (k : List ℕ) (u : State) (seen xs : List (List ℕ)) →
    map {B = List ℕ × State} (λ n. (n, with_one f k u n)) (new_names seen xs)
    ≡ with_state (map {B = List ℕ × State} (λ n. (n, f n)) (new_names seen xs)) (place_of k (new_names seen xs)) u
one_changed f k u seen [] = refl
one_changed f k u seen (x ∷ xs) = search (
  rules,
  bytes_eq_sym,
  bytes_eq-Decides,
  never_new,
  is_among-append,
  or_right,
  or_left,
  none_changed,
  add-one,
  one_changed f k u (seen ++ x ∷ []) xs,
)

-- a name that nothing mentions is wanted at no size
pub unmentioned : (ms : List Mention) (name : List ℕ) → is_among (names_of ms) name ≡ false → state ms name ≡ Wanted 0
unmentioned ms name h = rw (no_definition ms h, no_size ms h) refl
  where
    no_definition : (ms : List Mention) → is_among (names_of ms) name ≡ false → first_definition ms name ≡ None
    no_definition [] h = refl
    no_definition (m ∷ ms) h =
        let parts = or_parts (bytes_eq name m.name) (is_among (names_of ms) name) h in rw parts.0 (no_definition ms parts.1)

    no_size : (ms : List Mention) → is_among (names_of ms) name ≡ false → wanted_size ms name ≡ 0
    no_size [] h = refl
    no_size (m ∷ ms) h = let parts = or_parts (bytes_eq name m.name) (is_among (names_of ms) name) h in rw parts.0 (no_size ms parts.1)

-- a name that was not wanted takes what is said
pub says_alone : (s : State) → updated_state (Wanted 0) s ≡ s
says_alone s = search rules

-- the names and states after one more mention: the state of a known name is updated, a new name stands last
pub externals_mention : (ms : List Mention) (m : Mention) →
    named_states (ms ++ m ∷ []) ≡ with_state (named_states ms) (place_of m.name (names_by_first_mention ms))
    (updated_state (state ms m.name) m.says) ++ cond (is_among (names_of ms) m.name) [] ((m.name, m.says) ∷ [])
externals_mention ms m =
    ap (λ (ns : List (List ℕ)). map {B = List ℕ × State} (λ n. (n, state (ms ++ m ∷ []) n)) ns) (names_by_first_mention-append ms (m ∷ []))
    ∙ map-append {B = List ℕ × State} (λ n. (n, state (ms ++ m ∷ []) n)) (names_by_first_mention ms)
    (cond (is_among (names_of ms) m.name) [] (m.name ∷ []))
    ∙ (λ i. (ap (λ (f : List ℕ → State). map {B = List ℕ × State} (λ n. (n, f n)) (names_by_first_mention ms))
    (λ j n. new_state n j) ∙ one_changed (state ms) m.name (updated_state (state ms m.name) m.says) [] (names_of ms)) i
    ++ last (is_among (names_of ms) m.name) refl i)
  where
    new_state : (n : List ℕ) → state (ms ++ m ∷ []) n ≡ with_one (state ms) m.name (updated_state (state ms m.name) m.says) n
    new_state n = state_mention ms m n ∙ by_test (bytes_eq n m.name) refl
      where
        by_test : (t : Bool) → bytes_eq n m.name ≡ t → cond t (updated_state (state ms n) m.says) (state ms n) ≡ cond t
            (updated_state (state ms m.name) m.says) (state ms n)
        by_test true e = ap (λ (k : List ℕ). updated_state (state ms k) m.says) ((bytes_eq-Decides n m.name).0 e)
        by_test false e = refl

    last : (t : Bool) → is_among (names_of ms) m.name ≡ t →
        map {B = List ℕ × State} (λ n. (n, state (ms ++ m ∷ []) n)) (cond t [] (m.name ∷ [])) ≡ cond t [] ((m.name, m.says) ∷ [])
    last true e = refl
    last false e =
        let mention_of : state (ms ++ m ∷ []) m.name ≡ m.says =
        new_state m.name ∙ ap (λ (t : Bool). cond t (updated_state (state ms m.name) m.says) (state ms m.name))
        (own_name m.name) ∙ ap (λ (s : State). updated_state s m.says) (unmentioned ms m.name e) ∙ says_alone m.says in
        ap (λ (s : State). let pair : List ℕ × State = (m.name, s) in pair ∷ []) mention_of

-- once all mentions of an object are known: its own cells and its bss stand last
pub image_own : (forced : List (List ℕ)) (os : List Contents) (o : Contents) →
    image forced (os ++ o ∷ []) ≡ record {
      text_cells =
          (image_by (mentions forced os ++ mentions_in os o) os).text_cells
          ++ cells_in (mentions forced os ++ mentions_in os o) segments.TextSeg os o;
      data_cells =
          (image_by (mentions forced os ++ mentions_in os o) os).data_cells
          ++ cells_in (mentions forced os ++ mentions_in os o) segments.DataSeg os o;
      bss_total = total segments.BssSeg os + size_of segments.BssSeg o;
      externals = (image_by (mentions forced os ++ mentions_in os o) os).externals;
      multiples = (image_by (mentions forced os ++ mentions_in os o) os).multiples;
    }
image_own forced os o =
    let ms = mentions forced os ++ mentions_in os o in
    let bss : total segments.BssSeg (os ++ o ∷ []) ≡ total segments.BssSeg os + size_of segments.BssSeg o =
    sum_by-append (size_of segments.BssSeg) os (o ∷ []) ∙ omega arith in
    ap (λ (all : List Mention). image_by all (os ++ o ∷ [])) (mentions_push forced os o)
    ∙ (λ i. record {
      text_cells = cells_push ms segments.TextSeg os o i;
      data_cells = cells_push ms segments.DataSeg os o i;
      bss_total = bss i;
      externals = named_states ms;
      multiples = multiple_names ms;
    })
