use Rattle.std.proofs.Common.{◌≡◌, ◌≢◌, Err, rules}
use Rattle.aout_core.specs.Refusals.{refused}
use Rattle.libv7.specs.{declared.cause.Cause.TheVariants.Memory, FileAnswers.object_in}
use Rattle.libv7.proofs.FileLemmas.{object_refused, object_unread}
use Rattle.libv7.proofs.decoding.first_object.Goals as goal

pub returns-in_err-first_file-clause-err : goal.returns-in_err-first_file-clause-err
returns-in_err-first_file-clause-err c =
    let stage : c.in_err-first_file.field-0.0 ≢ Memory refused → object_in c.args.bytes.now ≡ Err c.in_err-first_file.field-0.0 =
    λ other. object_unread c.args.bytes.now c.in_err-first_file.field-0.0 (c.in_err-first_file.ensures.err other) in
    search (rules, stage)

pub returns-clause-err : goal.returns-clause-err
returns-clause-err c =
    object_refused c.args.bytes.now c.in_ok-first_file.field-0 c.object_of.result c.in_ok-first_file.ensures.file c.object_of.ensures.err
