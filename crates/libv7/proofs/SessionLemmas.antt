-- The object that a session adds or withdraws.
use Rattle.std.proofs.{Common.{◌≡◌, ℕ, List, [], ◌∷◌, ◌++◌, Option, ap, ◌∙◌}, lemmas.List.map-append}
use Rattle.std.specs.Prelude.{ok_or}
use Rattle.link_session.specs.{Edits.last_of, Labelled.Labelled, Labelled.objects, Sessions.Withdraws, Undo.Kept}
use Rattle.link_session.proofs.EditLemmas.{last_of-put_last}
use Rattle.libv7.specs.{SessionAnswers.{AddsBytes, TakesLast}, declared.cause.Cause.TheVariants.NothingKept}

pub objects_more : (bytes : List ℕ) (old new : Kept) (added : AddsBytes bytes old new) →
    objects new.entries ≡ objects old.entries ++ added.object ∷ []
objects_more bytes old new added =
    let e : Labelled = record { label = []; object = added.object } in
    ap objects added.adds.entries ∙ map-append (λ (x : Labelled). x.object) old.entries (e ∷ [])

pub taken_last : (old new : Kept) (e : Labelled) → Withdraws old new e → TakesLast old new
taken_last old new e takes =
    record { last = e; found = ap (λ (last : Option Labelled). ok_or last NothingKept) (ap last_of takes.entries ∙ last_of-put_last new.entries e); takes = takes }
