use Rattle.std.proofs.Common.{rules, ◌≡◌, inl, subst}
use Rattle.host.specs.Sources.{ReadsAt}
use Rattle.v7_explain.specs.{Files.{GivesOr, HasStatus}, Runs.status_taken}
use Rattle.v7_explain.proofs.EachLemmas.{answers_none, answers_unread}
use Rattle.v7_explain.proofs.map_objects.take_at.Goals as goal

pub returns-in-Ok : goal.returns-in-Ok
returns-in-Ok g c =
    let same : c.deref.result.now ≡ c.in-Ok.bytes.items = search rules in
    let says = subst (λ bytes. GivesOr (HasStatus (status_taken bytes)) c.take.result) same c.take.ensures in
    inl (c.in-Ok.bytes.items, c.in-Ok.ensures.ok, says)

pub returns-in-Err-Memory : goal.returns-in-Err-Memory
returns-in-Err-Memory g c =
    answers_unread ReadsAt (λ bytes. HasStatus (status_taken bytes)) _ _ _ _ (search rules) c.in-Err-Memory.ensures.err

pub returns-in-Err-Answered : goal.returns-in-Err-Answered
returns-in-Err-Answered g c =
    answers_none ReadsAt (λ bytes. HasStatus (status_taken bytes)) _ _ _ _ c.in-Err-Answered.answer _ c.in-Err-Answered.field-0-is
    c.in-Err-Answered.ensures.err (search rules)
