-- What an index of names gives for a report.
use Rattle.std.proofs.Common.{◌≡◌, ℕ, List, IfOk, Result, Ok, Err, ap, ◌∙◌}
use Rattle.std.specs.{Prelude.Vec, declared.alloc.Global.Global}
use Rattle.link_session.specs.Labelled.{Labelled, objects}
use Rattle.link_out.specs.Results.{ReportNames}
use Rattle.libv7.specs.{FindingPlaces.{finding_places, first_number, further_objects, places_with}, LinkAnswers.reported_names}
use Rattle.libv7.specs.{internal.Numbered.{IsIndex, found}, declared.places.FindingPlace.FindingPlace, declared.places.Index.Index}

-- by what is read of a session: its entries, the numbers of further objects and the names, and the places that are made of these
pub placed : {E : Type 0} (index : Index) (read kept : List Labelled) (forced : List (List ℕ)) (lent numbers : List ℕ)
    (names lent_names : List (ℕ × List ℕ)) (f : ReportNames) (r : Result (Vec FindingPlace Global) E) → read ≡ kept →
    IsIndex index (objects read) → lent ≡ numbers → numbers ≡ further_objects forced (objects kept) → lent_names ≡ names → names ≡ reported_names f →
    IfOk r (λ places. places.items ≡ places_with (found index) lent lent_names) →
    IfOk r (λ places. places.items ≡ finding_places forced (objects kept) f)
placed index read kept forced lent numbers names lent_names f (Ok places) same is are further lent_are named h =
    let first : found index ≡ first_number (objects read) = λ i. λ (name : List ℕ). is name i in
    h
    ∙ ap (λ (g : List ℕ → ℕ). places_with g lent lent_names) (first ∙ ap (λ (es : List Labelled). first_number (objects es)) same)
    ∙ ap (λ (l : List ℕ). places_with (first_number (objects kept)) l lent_names) (are ∙ further)
    ∙ ap (places_with (first_number (objects kept)) (further_objects forced (objects kept))) (lent_are ∙ named)
placed index read kept forced lent numbers names lent_names f (Err e) same is are further lent_are named h = tt
