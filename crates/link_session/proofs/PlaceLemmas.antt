-- The place of a name in an image, and the state there.
use Rattle.std.proofs.Common.{◌≡◌, ℕ, zero, suc, ◌≤◌, Bool, List, [], ◌∷◌, length, rules, position, Some, None, refl, sym, ◌∙◌, ap, arith}
use Rattle.std.proofs.{Common.add-one, lemmas.Bool.{le-ltb, lt-ltb, cases_lt}, lemmas.List.length-map}
use Rattle.std.specs.{Prelude.bytes_eq, Prelude.slice_get, Prelude.filter, List.position_or_len, Map.keys_of, Map.lookup}
use Rattle.indexmap.specs.IndexMap.{insert_entry, set_value_at}
use Rattle.link_session.specs.{declared.state.State.State, declared.state.State.TheVariants.Wanted, Mentions.place_of, Undo.with_state}
use Rattle.link_session.specs.{Image.Named, Image.state_in, Image.state_at, internal.Additions.state_for, internal.Additions.place_in}

-- the place at which the code finds a name, or puts it if it is new, is that of the definition
pub place_is : (name : List ℕ) (names : List (List ℕ)) → position_or_len (bytes_eq name) names ≡ place_of name names
place_is name [] = refl
place_is name (n ∷ ns) = search (rules, place_is name ns)

pub place_of-le : (name : List ℕ) (names : List (List ℕ)) → place_of name names ≤ length names
place_of-le name [] = omega arith
place_of-le name (n ∷ ns) = search (rules, place_of-le name ns)

found : (name : List ℕ) (names : List (List ℕ)) (i : ℕ) → position (bytes_eq name) names ≡ Some i → place_of name names ≡ i
found name names i e = search (rules, cases_lt, lt-ltb, place_is, le-ltb)

missing : (name : List ℕ) (names : List (List ℕ)) → position (bytes_eq name) names ≡ None → place_of name names ≡ length names
missing name names e = search (rules, cases_lt, lt-ltb, place_is, place_of-le)

-- a name that is found stands at its place
pub found_place : (es : Named) (name : List ℕ) (i : ℕ) → Some i ≡ position (bytes_eq name) (keys_of es) → i ≡ place_in es name
found_place es name i e = sym (found name (keys_of es) i (sym e))

after : (es : Named) → slice_get es (length es) ≡ None
after [] = refl
after (e ∷ es) = after es

-- a name that is not found would stand last
pub missing_place : (es : Named) (name : List ℕ) → None ≡ position (bytes_eq name) (keys_of es) → length es ≡ place_in es name
missing_place es name e = sym (missing name (keys_of es) (sym e) ∙ length-map es (λ p. p.0))

-- a name that has no place counts as wanted, at size 0
pub missing_state : (es : Named) (name : List ℕ) → None ≡ position (bytes_eq name) (keys_of es) → Wanted 0 ≡ state_for es name
missing_state es name e = ap state_in (sym (after es)) ∙ ap (state_at es) (missing_place es name e)

-- a name with a state stands at its place
pub known_state : (es : Named) (name : List ℕ) (was : State) → lookup (bytes_eq name) es ≡ Some was → was ≡ state_for es name
known_state [] name was h = absurd (cc)
known_state (e ∷ es) name was h = search (rules, add-one, known_state es name was)

-- so does one that a lookup does not find
pub unknown_state : (es : Named) (name : List ℕ) → lookup (bytes_eq name) es ≡ None → Wanted 0 ≡ state_for es name
unknown_state [] name h = refl
unknown_state (e ∷ es) name h = search (rules, add-one, unknown_state es name)

-- a state that is written again at its place
pub written_again : (es : Named) (name : List ℕ) (first then : State) →
    set_value_at (insert_entry bytes_eq es name first) (place_in es name) then ≡ insert_entry bytes_eq es name then
written_again [] name first then = refl
written_again (e ∷ es) name first then = search (rules, add-one, written_again es name first then)

-- a state that is written after the last name changes nothing
pub with_state-after : (es : Named) (i : ℕ) (s : State) → length es ≤ i → with_state es i s ≡ es
with_state-after [] i s h = refl
with_state-after (e ∷ es) zero s h = absurd (omega arith)
with_state-after (e ∷ es) (suc i) s h = ap (λ (l : Named). e ∷ l) (with_state-after es i s (omega arith))

-- those that pass a test are no more than all: sums of them fit if the whole does
pub filter_le : {A : Type 0} (p : A → Bool) (xs : List A) → length (filter p xs) ≤ length xs
filter_le p [] = omega arith
filter_le {A = A} p (x ∷ xs) = search (rules, filter_le p xs)
