-- Objects as a session takes them, one after another.
use Rattle.std.proofs.{Common.{◌≡◌, ℕ, List, [], ◌∷◌, ◌++◌, Option, Some, None, refl, sym, ap, ◌∙◌}, lemmas.List.{append-nil, append_assoc}}
use Rattle.aout_core.specs.WellFormed.{first_of}
use Rattle.link_session.specs.{declared.entry.AddFault.AddFault, Labelled.Labelled, Labelled.objects, Limits.refusal}
use Rattle.link_maps.specs.Members.{all_of, cause_of, left_of}
use Rattle.link_maps.specs.Taking.{Split, not_split, split, split_by, split_from, split_of, split_with, with_object}
use Rattle.link_maps.specs.{declared.members.Objects.Objects, declared.members.Refused.Refused}

-- ---- one after another

-- one more object after these
split_last : (forced : List (List ℕ)) (s : Split) (xs : List Labelled) (x : Labelled) →
    split_from forced s (xs ++ x ∷ []) ≡ with_object forced (split_from forced s xs) x
split_last forced s [] x = refl
split_last forced s (y ∷ ys) x = split_last forced (with_object forced s y) ys x

last_of_all : (kept : List Labelled) (refused : Option Refused) (found : Option AddFault) (x : Labelled) →
    (let s : Split = split_by (split_with kept refused) x (first_of (cause_of refused) found) in s.kept ++ s.left)
    ≡ (kept ++ left_of refused) ++ x ∷ []
last_of_all kept None None x = append-nil (kept ++ x ∷ []) ∙ ap (λ (l : List Labelled). l ++ x ∷ []) (sym (append-nil kept))
last_of_all kept None (Some fault) x = ap (λ (l : List Labelled). l ++ x ∷ []) (sym (append-nil kept))
last_of_all kept (Some r) found x = sym (append_assoc kept (left_of (Some r)) (x ∷ []))

-- the object that is taken is the last one of all, whether it is kept or left
pub all_more : (old new : Objects) (x : Labelled) → split_of new ≡ with_object old.session.forced (split_of old) x →
    all_of new ≡ all_of old ++ x ∷ []
all_more old new x taken =
    ap (λ (s : Split). s.kept ++ s.left) taken
    ∙ last_of_all old.session.entries old.refused (refusal old.session.forced (objects old.session.entries) x.object) x

-- objects are split as by their definition after one more, if they were before it
pub split_more : (forced : List (List ℕ)) (old new : Objects) (x : Labelled) → old.session.forced ≡ forced →
    split_of new ≡ with_object old.session.forced (split_of old) x → split_of old ≡ split forced (all_of old) →
    split_of new ≡ split forced (all_of new)
split_more forced old new x names taken so_far =
    taken
    ∙ ap (λ (f : List (List ℕ)). with_object f (split_of old) x) names
    ∙ ap (λ (s : Split). with_object forced s x) so_far
    ∙ sym (split_last forced not_split (all_of old) x)
    ∙ ap (split forced) (sym (all_more old new x taken))

-- ---- before the first
