-- A state that mentions change does not come back.
use Rattle.std.proofs.Common.{◌≡◌, ◌≢◌, ℕ, Bool, true, false, cond, List, [], ◌∷◌, ◌++◌, refl, sym, ap, ◌∙◌, rules}
use Rattle.std.proofs.Common.{append_assoc, append-nil}
use Rattle.link_session.specs.{declared.state.State.State, Marks.{same_state, state_changed, states_changed}, Mentions.Mention}
use Rattle.link_session.specs.{States.state, internal.Updates.updated_state}
use Rattle.link_session.proofs.{StateLemmas.state-append, DifferenceLemmas.own_state}

is_same : (s t : State) → same_state s t ≡ true → t ≡ s
is_same s t e = search rules

-- a state that is the same in the end was the same in between
never_back : (s first later : State) → updated_state (updated_state s first) later ≡ s → updated_state s first ≡ s
never_back s first later e = search rules

-- one mention, and those after it
one_by_one : (earlier : List Mention) (m : Mention) (ms : List Mention) (name : List ℕ) →
    state (earlier ++ (m ∷ ms)) name ≡ state ((earlier ++ m ∷ []) ++ ms) name
one_by_one earlier m ms name = ap (λ (l : List Mention). state l name) (sym (append_assoc earlier (m ∷ []) ms))

-- a name whose state is as it was has no mark
pub none_changed : (earlier ms : List Mention) (name : List ℕ) → state (earlier ++ ms) name ≡ state earlier name →
    states_changed earlier ms name ≡ []
none_changed earlier [] name e = refl
none_changed earlier (m ∷ ms) name e =
    let split : state (earlier ++ m ∷ []) name ≡ updated_state (state earlier name) (state (m ∷ []) name) =
    state-append earlier (m ∷ []) name in
    let last : state ((earlier ++ m ∷ []) ++ ms) name
    ≡ updated_state (updated_state (state earlier name) (state (m ∷ []) name)) (state ms name) =
    state-append (earlier ++ m ∷ []) ms name ∙ ap (λ (s : State). updated_state s (state ms name)) split in
    let stays : state (earlier ++ m ∷ []) name ≡ state earlier name =
    split ∙ never_back (state earlier name) (state (m ∷ []) name) (state ms name) (sym last ∙ sym (one_by_one earlier m ms name) ∙ e) in
    let here : state_changed earlier m name ≡ [] =
    ap (λ (s : State). cond (same_state (state earlier name) s) [] (state earlier name ∷ [])) stays
    ∙ ap (λ (t : Bool). cond t [] (state earlier name ∷ [])) (own_state (state earlier name)) in
    λ i. here i ++ none_changed (earlier ++ m ∷ []) ms name (sym (one_by_one earlier m ms name) ∙ e ∙ sym stays) i

-- a name whose state changed has marks, the first with the state before the addition
pub first_changed : (earlier ms : List Mention) (name : List ℕ) → state (earlier ++ ms) name ≢ state earlier name →
    (later : List State) × (states_changed earlier ms name ≡ state earlier name ∷ later)
first_changed earlier [] name other = absurd (other (ap (λ (l : List Mention). state l name) (append-nil earlier)))
first_changed earlier (m ∷ ms) name other =
    by_test (same_state (state earlier name) (state (earlier ++ m ∷ []) name)) refl (λ ne. first_changed (earlier ++ m ∷ []) ms name ne)
  where
    rest : List State
    rest = states_changed (earlier ++ m ∷ []) ms name

    by_test : (t : Bool) → same_state (state earlier name) (state (earlier ++ m ∷ []) name) ≡ t →
        (state ((earlier ++ m ∷ []) ++ ms) name ≢ state (earlier ++ m ∷ []) name →
        (later : List State) × (rest ≡ state (earlier ++ m ∷ []) name ∷ later)) →
        (later : List State) × (cond t [] (state earlier name ∷ []) ++ rest ≡ state earlier name ∷ later)
    by_test false e h = (rest, refl)
    by_test true e h =
        let same : state (earlier ++ m ∷ []) name ≡ state earlier name = is_same (state earlier name) (state (earlier ++ m ∷ []) name) e in
        let more = h (λ last. other (one_by_one earlier m ms name ∙ last ∙ same)) in
        (more.0, more.1 ∙ ap (λ (s : State). s ∷ more.0) same)
