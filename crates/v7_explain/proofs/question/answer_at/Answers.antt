use Rattle.std.proofs.Common.{rules, ◌≡◌, refl, subst, inr}
use Rattle.aout_core.specs.Decoding.{decode}
use Rattle.v7_explain.specs.Files.{HasStatus, status_asked}
use Rattle.v7_explain.proofs.question.answer_at.Goals as goal

pub returns : goal.returns
returns g c =
    let same : c.deref.result.now ≡ c.in_ok-bytes.bytes.items = search rules in
    let said = subst (λ bytes. HasStatus (status_asked c.args.what.now (decode bytes)) c.in_ok-answer_bytes.field-0) same
    c.in_ok-answer_bytes.ensures in
    inr (c.in_ok-bytes.bytes.items, g.O.FileSystem.history c.read_whole.new.file_system, c.in_ok-bytes.ensures.ok, (refl, said))

pub returns-in_err-answer_bytes : goal.returns-in_err-answer_bytes
returns-in_err-answer_bytes g c =
    inr (c.in_ok-bytes.bytes.items, g.O.FileSystem.history c.read_whole.new.file_system, c.in_ok-bytes.ensures.ok, (refl, search rules))
