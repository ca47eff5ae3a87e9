-- The names of a report, and the address of the entry point.
use Rattle.std.proofs.Common.{◌≡◌, ℕ, ◌+◌, Bool, cond, List, [], ◌∷◌, length, position, Some, None, refl, sym, ◌∙◌, ap, arith, nat_lt}
use Rattle.std.proofs.{Common.rules, lemmas.List.Recursion.is_position_or_len, lemmas.Bool.lt-ltb}
use Rattle.std.specs.Prelude.{bytes_eq, filter}
use Rattle.link_session.specs.{declared.state.State.TheVariants.Wanted, Image.state_at, Image.named_states}
use Rattle.link_session.specs.{Mentions.Mention, Mentions.names_by_first_mention, Mentions.place_of, States.state}
use Rattle.tool_options.specs.NameLists.{is_among}
use Rattle.link_session.proofs.{PlaceLemmas.{found_place, missing_state}, MentionedLemmas.{keys-named_states, state_for-named_states}}
use Rattle.link_out.specs.function.Finals.{Final, final}
use Rattle.link_out.specs.function.Reports.{is_missing, undefined_names, is_in_text, entry_word, entry_found_bad}
use Rattle.link_out.specs.{internal.Entries.text_address_at, function.Plans.Plan, internal.FromCells.finals, internal.InOrder.missing_among}
use Rattle.link_out.proofs.{CellWordLemmas.mapped_at_place, InOrderLemmas.named_by}

-- the state of a name that is found, and of one that is not
pub found_known : (ms : List Mention) (name : List ℕ) (i : ℕ) →
    Some i ≡ position (bytes_eq name) (names_by_first_mention ms) → state_at (named_states ms) i ≡ state ms name
found_known ms name i h =
    ap (state_at (named_states ms)) (found_place (named_states ms) name i (h ∙ ap (position (bytes_eq name)) (sym (keys-named_states ms))))
    ∙ state_for-named_states ms name

-- a name that no mention has is wanted at size 0
pub missing_known : (ms : List Mention) (name : List ℕ) → None ≡ position (bytes_eq name) (names_by_first_mention ms) →
    Wanted 0 ≡ state ms name
missing_known ms name h =
    missing_state (named_states ms) name (h ∙ ap (position (bytes_eq name)) (sym (keys-named_states ms)))
    ∙ state_for-named_states ms name

-- the names that are reported, from the names with their states
missing-named : (ms : List Mention) (names : List (List ℕ)) →
    missing_among (named_by ms names) ≡ filter (λ n. is_missing n (state ms n)) names
missing-named ms [] = refl
missing-named ms (n ∷ ns) = search (rules, named_by, missing-named ms ns)

-- undefined names, found name by name
pub missing-in_order : (ms : List Mention) → missing_among (named_states ms) ≡ undefined_names ms
missing-in_order ms = missing-named ms (names_by_first_mention ms)

one_more : (a b : ℕ) → nat_lt (a + 1) (b + 1) ≡ nat_lt a b
one_more a b = search rules

among-place : (name : List ℕ) (names : List (List ℕ)) → is_among names name ≡ nat_lt (place_of name names) (length names)
among-place name [] = refl
among-place name (n ∷ ns) = search (rules, lt-ltb, one_more, among-place name ns)

-- the position of a name in a list, by whether it is among them
pub position-place : (name : List ℕ) (names : List (List ℕ)) →
    position (bytes_eq name) names ≡ cond (is_among names name) (Some (place_of name names)) None
position-place name names =
    ap (λ (k : ℕ). cond (nat_lt k (length names)) (Some k) None) (sym (is_position_or_len (place_of name)
    (bytes_eq name) refl (λ n ns. ap (λ (k : ℕ). cond (bytes_eq name n) 0 k) (omega arith)) names))
    ∙ ap (λ (t : Bool). cond t (Some (place_of name names)) None) (sym (among-place name names))

-- the address of a name in text, from the final names
address-found : (p : Plan) (fs : List Final) (name : List ℕ) → fs ≡ finals p → text_address_at fs
    (position (bytes_eq name) (names_by_first_mention p.mentions)) ≡ cond (is_in_text p name) (Some (final p name).address) None
address-found p fs name same = search (rules, position, position-place, mapped_at_place)

-- what is told of an entry point that has an address, and of one that has none
pub entry_at : (p : Plan) (fs : List Final) (name : List ℕ) (address : ℕ) → fs ≡ finals p →
    Some address ≡ text_address_at fs (position (bytes_eq name) (names_by_first_mention p.mentions)) →
    (address ≡ entry_word p (Some name)) × (None ≡ entry_found_bad p (Some name))
entry_at p fs name address same h = search (rules, address-found)

-- an entry name that is not in text: the entry word is 0, and the name is reported
pub entry_nowhere : (p : Plan) (fs : List Final) (name : List ℕ) → fs ≡ finals p →
    None ≡ text_address_at fs (position (bytes_eq name) (names_by_first_mention p.mentions)) →
    (0 ≡ entry_word p (Some name)) × (Some name ≡ entry_found_bad p (Some name))
entry_nowhere p fs name same h = search (rules, address-found)
