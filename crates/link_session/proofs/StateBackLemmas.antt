-- The marks of mentions bring the earlier states back, lie inside the image, and are few.
use Rattle.std.proofs.Common.{◌≡◌, ℕ, zero, suc, ◌≤◌, ◌<◌, Bool, true, false, cond, ◌&&◌, List, [], ◌∷◌, take, length, refl, ◌∙◌, ap, arith}
use Rattle.std.proofs.{Common.{length-append, nat_lt, rules}, lemmas.Bool.{ltb-true, ltb-false}}
use Rattle.std.specs.{List.AllByRecursion}
use Rattle.link_session.specs.internal.Additions.{state_for, place_in, with_mention, with_mentions, changes, state_mark, state_marks}
use Rattle.link_session.specs.{declared.state.State.State, declared.mark.Mark.TheVariants.StateWas, Mentions.Mention}
use Rattle.link_session.specs.{Image.{Image, Named, state_at}, Undo.{with_state, put_all_back, IsInside}, internal.Updates.updated_state}
use Rattle.link_session.proofs.MarkLemmas.{put_all_back-append, take_grown, take_with_state}
use Rattle.link_session.proofs.{MentionedLemmas.with_mention-is, MentionedLemmas.next_state, ListLemmas.all_append}

-- States.

unchanged : (was says : State) → changes was says ≡ false → updated_state was says ≡ was
unchanged was says h = search rules

same_state : (es : Named) (i : ℕ) → with_state es i (state_at es i) ≡ es
same_state [] i = refl
same_state (e ∷ es) zero = refl
same_state (e ∷ es) (suc i) = ap (λ (l : Named). e ∷ l) (same_state es i)

back_state : (es : Named) (n i : ℕ) (now : State) → i < n → with_state (take n (with_state es i now)) i (state_at es i) ≡ take n es
back_state [] zero i now h = refl
back_state [] (suc n) i now h = refl
back_state (e ∷ es) zero i now h = absurd (omega arith)
back_state (e ∷ es) (suc n) zero now h = refl
back_state (e ∷ es) (suc n) (suc i) now h = ap (λ (l : Named). e ∷ l) (back_state es n i now (omega arith))

length-with_state : (es : Named) (i : ℕ) (s : State) → length (with_state es i s) ≡ length es
length-with_state [] i s = refl
length-with_state (e ∷ es) zero s = refl
length-with_state (e ∷ es) (suc i) s = ap suc (length-with_state es i s)

-- the names that were there before, after one more mention
front_mentioned : (kept : ℕ) (es : Named) (m : Mention) → kept ≤ length es →
    take kept (with_mention es m) ≡ take kept (with_state es (place_in es m.name) (next_state es m))
front_mentioned kept es m h = search (rules, with_mention-is, take_grown, next_state, length-with_state)

longer : (es : Named) (m : Mention) → length es ≤ length (with_mention es m)
longer es m = search (rules, with_mention-is, length-with_state, next_state, length-append)

abbrev with_named : Image → Named → Image
with_named m es = record m { externals = es }

-- one mention is put back
mention_back : (m : Image) (kept : ℕ) (es : Named) (k : Mention) → kept ≤ length es →
    put_all_back (state_mark kept es k) (with_named m (take kept (with_mention es k))) ≡ with_named m (take kept es)
mention_back m kept es k h =
    ap (λ (l : Named). put_all_back (state_mark kept es k) (with_named m l)) (front_mentioned kept es k h)
    ∙ by_place (nat_lt (place_in es k.name) kept) refl
  where
    by_change : (u : Bool) → changes (state_for es k.name) k.says ≡ u → place_in es k.name < kept →
        put_all_back (cond u (StateWas (place_in es k.name) (state_for es k.name) ∷ []) [])
        (with_named m (take kept (with_state es (place_in es k.name) (next_state es k)))) ≡ with_named m (take kept es)
    by_change true e lt = ap (with_named m) (back_state es kept (place_in es k.name) (next_state es k) lt)
    by_change false e lt =
        ap (λ (s : State). with_named m (take kept (with_state es (place_in es k.name) s))) (unchanged (state_for es k.name) k.says e)
        ∙ ap (λ (l : Named). with_named m (take kept l)) (same_state es (place_in es k.name))

    by_place : (t : Bool) → nat_lt (place_in es k.name) kept ≡ t →
        put_all_back (cond (t && changes (state_for es k.name) k.says) (StateWas (place_in es k.name) (state_for es k.name) ∷ []) [])
        (with_named m (take kept (with_state es (place_in es k.name) (next_state es k))))
        ≡ with_named m (take kept es)
    by_place true e = by_change (changes (state_for es k.name) k.says) refl (ltb-true (place_in es k.name) kept e)
    by_place false e =
        ap (with_named m) (take_with_state es kept (place_in es k.name) (next_state es k) (ltb-false (place_in es k.name) kept e))

-- all mentions are put back
pub mentions_back : (m : Image) (kept : ℕ) (es : Named) (ms : List Mention) → kept ≤ length es →
    put_all_back (state_marks kept es ms) (with_named m (take kept (with_mentions es ms))) ≡ with_named m (take kept es)
mentions_back m kept es [] h = refl
mentions_back m kept es (k ∷ ms) h =
    put_all_back-append (state_mark kept es k) (state_marks kept (with_mention es k) ms)
    (with_named m (take kept (with_mentions (with_mention es k) ms)))
    ∙ ap (λ (n : Image). put_all_back (state_mark kept es k) n)
    (mentions_back m kept (with_mention es k) ms (let l = longer es k in omega arith))
    ∙ mention_back m kept es k h

-- Where the marks lie.

-- the marks of mentions may be put back: each is of a name that the image had
pub states_inside : (m : Image) (es : Named) (ms : List Mention) → AllByRecursion (IsInside m) (state_marks (length m.externals) es ms)
states_inside m es [] = tt
states_inside m es (k ∷ ms) = search (rules, all_append, ltb-true, states_inside m (with_mention es k) ms)

-- How many marks there are.

-- an addition needs room for one mark of each mention, and no more
pub states_few : (kept : ℕ) (es : Named) (ms : List Mention) → length (state_marks kept es ms) ≤ length ms
states_few kept es [] = omega arith
states_few kept es (k ∷ ms) = search (rules, length-append, states_few kept (with_mention es k) ms)
