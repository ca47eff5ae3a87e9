use Rattle.std.proofs.Common.{rules}
use Rattle.aout_core.specs.Decoding.{decode}
use Rattle.v7_explain.specs.{Files.IsSaid, Runs.ReadsFor}
use Rattle.v7_explain.proofs.EachLemmas.{answers_none, answers_out, answers_unread}
use Rattle.v7_explain.proofs.explaining.explain_at.Goals as goal

pub returns-in_err-explain-in-Ok : goal.returns-in_err-explain-in-Ok
returns-in_err-explain-in-Ok g c =
    answers_out (ReadsFor c.args.mode) (λ bytes. IsSaid c.args.mode bytes (decode bytes)) _ _ _ c.in-Ok.bytes.items _ c.in-Ok.ensures.ok
    (search rules)

pub returns-in-Err-Memory : goal.returns-in-Err-Memory
returns-in-Err-Memory g c =
    answers_unread (ReadsFor c.args.mode) (λ bytes. IsSaid c.args.mode bytes (decode bytes)) _ _ _ _ (search rules)
    c.in-Err-Memory.ensures.err

pub returns-in-Err-Answered : goal.returns-in-Err-Answered
returns-in-Err-Answered g c =
    answers_none (ReadsFor c.args.mode) (λ bytes. IsSaid c.args.mode bytes (decode bytes)) _ _ _ _ c.in-Err-Answered.answer _
    c.in-Err-Answered.field-0-is c.in-Err-Answered.ensures.err (search rules)
