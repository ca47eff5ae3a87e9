-- The mentions, names and states of a partial link among neighbours.
use Rattle.std.proofs.Common.{◌≡◌, ℕ, Bool, true, false, List, [], ◌∷◌, ◌++◌, map, Option, refl, sym, ◌∙◌, ap, append-nil, rules}
use Rattle.std.proofs.lemmas.List.{map-id}
use Rattle.std.specs.Prelude.{bytes_eq}
use Rattle.aout_core.specs.Contents.{Contents}
use Rattle.link_session.specs.Mentions.{Mention, mentions_in, mentions, forced_mention, names_of, names_by_first_mention}
use Rattle.link_session.specs.{declared.state.State.State, declared.state.State.TheVariants.Defined}
use Rattle.link_session.specs.{declared.state.State.TheVariants.Wanted, States.state, internal.Updates.updated_state}
use Rattle.tool_options.specs.{declared.options.Keep.Keep}
use Rattle.link_session.proofs.{MentionLemmas.{mentions-append, names_of-append, names_of-map}, StateLemmas.state-append}
use Rattle.link_session.proofs.NeighbourLemmas.{AreAsLong, as_long_append, as_long_self, blocks_same, blocks-append, mentions_in_same}
use Rattle.link_session.proofs.NeighbourLemmas.{mentions_after, raised, raise, mentions_in_raised, mentions_after-raised, names_of_raised}
use Rattle.link_session.proofs.NeighbourLemmas.{forced_front, names_of_forced, names_mentioned_once}
use Rattle.link_out.proofs.partial_links.PartialLemmas.{partial_file}
use Rattle.link_out.proofs.partial_links.PartialNames.{HasTable, final_mention, final_alone, final_state, said_once}

pub state_raised : (bs : List Contents) (ms : List Mention) (name : List ℕ) → state (map (raise bs) ms) name ≡ raised bs (state ms name)
state_raised bs [] name = refl
state_raised bs (m ∷ ms) name =
    state-append (raise bs m ∷ []) (map (raise bs) ms) name
    ∙ (λ i. updated_state (one (bytes_eq name m.name) m.says i) (state_raised bs ms name i))
    ∙ both (state (m ∷ []) name) (state ms name)
    ∙ ap (λ (s : State). raised bs s) (sym (state-append (m ∷ []) ms name))
  where
    one : (t : Bool) (s : State) → said_once t (raised bs s) ≡ raised bs (said_once t s)
    one true (Defined segment offset) = refl
    one true (Wanted size) = refl
    one false s = refl

    both : (a b : State) → updated_state (raised bs a) (raised bs b) ≡ raised bs (updated_state a b)
    both (Defined segment offset) b = refl
    both (Wanted size) (Defined segment offset) = refl
    both (Wanted size) (Wanted more) = refl

names_of_finals : (ms : List Mention) (ns : List (List ℕ)) → names_of (map (final_mention ms) ns) ≡ ns
names_of_finals ms ns = names_of-map (final_mention ms) (λ n. n) (λ n. refl) ns ∙ map-id ns

module _ (forced : List (List ℕ)) (bs os cs : List Contents) (keep : Keep) (entry : Option (List ℕ))
    (has : HasTable forced os keep entry) where
  abbrev m : Contents
  m = partial_file forced os keep entry

  -- a partial link is as long as its objects
  pub partial_as_long : AreAsLong (m ∷ []) os
  partial_as_long h = search rules

  -- the mentions before, in and after the objects
  abbrev pub front_said : List Mention
  front_said = map forced_mention forced ++ mentions_after [] bs

  -- those by the objects themselves
  abbrev pub whole_said : List Mention
  whole_said = mentions_after bs os

  abbrev pub partial_said : List Mention
  partial_said = mentions_in bs m

  -- those by the objects after them
  abbrev pub back_said : List Mention
  back_said = mentions_after (bs ++ os) cs

  -- the mentions of all objects, in three parts
  pub mentions_of_whole : mentions forced (bs ++ (os ++ cs)) ≡ front_said ++ (whole_said ++ back_said)
  mentions_of_whole = cc (mentions-append forced bs (os ++ cs), blocks-append mentions_in bs os cs)

  pub mentions_of_part : mentions forced (bs ++ m ∷ cs) ≡ front_said ++ (partial_said ++ back_said)
  mentions_of_part = mentions-append forced bs (m ∷ cs)
      ∙ ap (λ (ms : List Mention). front_said ++ (partial_said ++ ms)) (blocks_same mentions_in mentions_in_same
      (bs ++ m ∷ []) (bs ++ os) cs (as_long_append bs bs (m ∷ []) os (as_long_self bs) partial_as_long))

  -- what the partial link tells after the others
  pub final_after : partial_said ≡ map (raise bs) (map (final_mention (mentions forced os)) (names_by_first_mention (mentions forced os)))
  final_after =
      ap (λ (es : List Contents). mentions_in es m) (sym (append-nil bs)) ∙ mentions_in_raised bs [] m
      ∙ ap (λ (ms : List Mention). map (raise bs) ms) (final_alone forced os keep entry has)

  -- the state of a name among the objects alone, and after others
  pub state_alone : (name : List ℕ) → state (mentions forced os) name ≡ state (mentions_after [] os) name
  state_alone name = forced_front forced (mentions_after [] os) name

  -- the state of a name among the objects, after others
  pub state_after : (name : List ℕ) → state whole_said name ≡ raised bs (state (mentions forced os) name)
  state_after name = search (rules, mentions_after-raised, state_raised, mentions_after, raised, state_alone)

  pub state_partial : (name : List ℕ) → state partial_said name ≡ state whole_said name
  state_partial name = search (rules, final_after, state_raised, final_mention, raised, final_state, state_after)

  -- every name has the same state
  pub states_same : (name : List ℕ) → state (mentions forced (bs ++ m ∷ cs)) name ≡ state (mentions forced (bs ++ (os ++ cs))) name
  states_same name = search (rules, mentions_of_part, state-append, state_partial, mentions_of_whole)

  -- the names are the same, in the same order
  pub names_same : names_by_first_mention (mentions forced (bs ++ m ∷ cs)) ≡ names_by_first_mention (mentions forced (bs ++ (os ++ cs)))
  names_same = search (
    rules,
    mentions_after,
    names_of-append,
    names_of_forced,
    final_after,
    names_of_raised,
    names_of_finals,
    mentions_after-raised,
    mentions_of_part,
    names_mentioned_once,
    mentions_of_whole,
  )
