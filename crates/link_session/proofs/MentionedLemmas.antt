-- The names and states after the mentions of an object.
use Rattle.std.proofs.Common.{◌≡◌, ℕ, zero, suc, ◌+◌, Bool, true, false, cond, List, [], ◌∷◌, ◌++◌, map, length, refl, sym, ◌∙◌, ap, arith}
use Rattle.std.proofs.{Common.{add-one, append_assoc, append-nil, length-append, rules}, lemmas.List.{map-append, length-map}}
use Rattle.std.specs.{Prelude.bytes_eq, Map.keys_of}
use Rattle.indexmap.specs.IndexMap.{insert_entry}
use Rattle.link_session.specs.Mentions.{Mention, names_of, names_by_first_mention, place_of}
use Rattle.link_session.specs.Image.{named_states, Named, state_at, state_in}
use Rattle.link_session.specs.internal.Additions.{state_for, place_in, with_mention, with_mentions, all_clashes}
use Rattle.link_session.specs.{declared.state.State.State, declared.state.State.TheVariants.Wanted, States.state, States.multiple_names}
use Rattle.link_session.specs.{Undo.with_state, internal.Updates.updated_state}
use Rattle.tool_options.specs.NameLists.{is_among, new_names}
use Rattle.tool_options.proofs.NameListLemmas.{seen_again, new_names-seen}
use Rattle.link_session.proofs.UpdateLemmas.{unmentioned, externals_mention, multiples_mention, says_alone}
use Rattle.link_session.proofs.{MentionLemmas.is_among-externals, MentionLemmas.get_place, ListLemmas.get_mapped}

-- the names stay where a state is replaced
keys-with_state : (es : Named) (i : ℕ) (s : State) → keys_of (with_state es i s) ≡ keys_of es
keys-with_state [] i s = refl
keys-with_state (e ∷ es) zero s = refl
keys-with_state (e ∷ es) (suc i) s = ap (λ (ns : List (List ℕ)). e.0 ∷ ns) (keys-with_state es i s)

-- the names of names with states beside them
keys-beside : (f : List ℕ → State) (ns : List (List ℕ)) → keys_of (map {B = List ℕ × State} (λ n. (n, f n)) ns) ≡ ns
keys-beside f [] = refl
keys-beside f (n ∷ ns) = ap (λ (ks : List (List ℕ)). n ∷ ks) (keys-beside f ns)

-- a name keeps its place and takes the state, or stands last
pub insert_entry-is : (es : Named) (name : List ℕ) (s : State) → insert_entry bytes_eq es name s ≡ with_state es
    (place_in es name) s ++ cond (is_among (keys_of es) name) [] ((name, s) ∷ [])
insert_entry-is [] name s = refl
insert_entry-is (e ∷ es) name s = search (rules, append-nil, add-one, insert_entry-is es name s)

-- the state that a mention leaves its name in
abbrev pub next_state : Named → Mention → State
next_state es m = updated_state (state_for es m.name) m.says

-- a mention writes the state at the place of its name, or puts a new name last
pub with_mention-is : (es : Named) (m : Mention) → with_mention es m ≡ with_state es (place_in es m.name)
    (next_state es m) ++ cond (is_among (keys_of es) m.name) [] ((m.name, next_state es m) ∷ [])
with_mention-is es m = insert_entry-is es m.name (next_state es m)

-- a mention renames no external, and adds its name last if that is new
pub keys-with_mention : (es : Named) (m : Mention) →
    keys_of (with_mention es m) ≡ keys_of es ++ cond (is_among (keys_of es) m.name) [] (m.name ∷ [])
keys-with_mention es m = search (rules, with_mention-is, map-append, keys-with_state)

-- how many names there are after the mentions
pub length-with_mentions : (es : Named) (ms : List Mention) →
    length (with_mentions es ms) ≡ length es + length (new_names (keys_of es) (names_of ms))
length-with_mentions es [] = omega arith
length-with_mentions es (m ∷ ms) = search (
  rules,
  keys-with_mention,
  length-map,
  length-append,
  append-nil,
  new_names-seen,
  seen_again,
  length-with_mentions
      (with_mention es m) ms,
)

-- the keys of names with states are the names
pub keys-named_states : (ms : List Mention) → keys_of (named_states ms) ≡ names_by_first_mention ms
keys-named_states ms = keys-beside (state ms) (names_by_first_mention ms)

at_place : (f : List ℕ → State) (ns : List (List ℕ)) (name : List ℕ) → is_among ns name ≡ true →
    state_at (map {B = List ℕ × State} (λ n. (n, f n)) ns) (place_of name ns) ≡ f name
at_place f ns name h = ap state_in (get_mapped {B = List ℕ × State} (λ n. (n, f n)) ns (place_of name ns) name (get_place ns name h))

after_place : (f : List ℕ → State) (ns : List (List ℕ)) (name : List ℕ) → is_among ns name ≡ false →
    state_at (map {B = List ℕ × State} (λ n. (n, f n)) ns) (place_of name ns) ≡ Wanted 0
after_place f [] name h = refl
after_place f (n ∷ ns) name h = search (rules, add-one, after_place f ns name)

-- the state found is the state of the name
pub state_for-named_states : (ms : List Mention) (name : List ℕ) → state_for (named_states ms) name ≡ state ms name
state_for-named_states ms name =
    ap (λ (ns : List (List ℕ)). state_at (named_states ms) (place_of name ns)) (keys-named_states ms)
    ∙ by_test (is_among (names_by_first_mention ms) name) refl
  where
    by_test : (t : Bool) → is_among (names_by_first_mention ms) name ≡ t →
        state_at (named_states ms) (place_of name (names_by_first_mention ms)) ≡ state ms name
    by_test true h = at_place (state ms) (names_by_first_mention ms) name h
    by_test false h =
        after_place (state ms) (names_by_first_mention ms) name h
        ∙ sym (unmentioned ms name (sym (is_among-externals ms name) ∙ h))

-- one more mention
pub with_mention-named_states : (ms : List Mention) (m : Mention) → with_mention (named_states ms) m ≡ named_states (ms ++ m ∷ [])
with_mention-named_states ms m = search (
  rules,
  with_mention-is,
  keys-named_states,
  state_for-named_states,
  externals_mention,
  is_among-externals,
  unmentioned,
  says_alone,
)

-- several more mentions
pub with_mentions-named_states : (ms ns : List Mention) → with_mentions (named_states ms) ns ≡ named_states (ms ++ ns)
with_mentions-named_states ms [] = ap named_states (sym (append-nil ms))
with_mentions-named_states ms (n ∷ ns) = cc (with_mention-named_states ms n, with_mentions-named_states (ms ++ n ∷ []) ns, append_assoc ms (n ∷ []) ns)

-- the names that an addition notes as multiply defined are those that the longer list has more
pub all_clashes-named_states : (ms ns : List Mention) → multiple_names (ms ++ ns) ≡ multiple_names ms ++ all_clashes (named_states ms) ns
all_clashes-named_states ms [] = ap multiple_names (append-nil ms) ∙ sym (append-nil (multiple_names ms))
all_clashes-named_states ms (n ∷ ns) = search (
  rules,
  append_assoc,
  multiples_mention,
  state_for-named_states,
  with_mention-named_states,
  all_clashes-named_states (ms ++ n ∷
      []) ns,
)
