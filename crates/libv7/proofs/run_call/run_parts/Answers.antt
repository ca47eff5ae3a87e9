use Rattle.std.proofs.Common.{inr}
use Rattle.libv7.specs.{LinkAnswers.each_of, RunAnswers.results_of}
use Rattle.libv7.proofs.MemoryLemmas.{parts_given, parts_not_linked, parts_without_memory}
use Rattle.libv7.proofs.run_call.run_parts.Goals as goal

pub returns-in-Err-clause-memory : goal.returns-in-Err-clause-memory
returns-in-Err-clause-memory c = λ memory. inr (c.in-Err.ensures.memory memory)

pub returns-in-Ok-run_kept-clause-ok : goal.returns-in-Ok-run_kept-clause-ok
returns-in-Ok-run_kept-clause-ok c =
    parts_given c.args.forced.now c.args.options.now (each_of c.args.parts.now) c.args.wants c.in-Ok.session
    (results_of c.in-Ok-run_kept.given) c.in-Ok.ensures.forced c.in-Ok.ensures.ok c.in-Ok-run_kept.ensures.ok

pub returns-in-Err-run_kept-clause-err : goal.returns-in-Err-run_kept-clause-err
returns-in-Err-run_kept-clause-err c = λ other.
    parts_not_linked c.args.forced.now c.args.options.now (each_of c.args.parts.now) c.args.wants c.in-Ok.session
    c.in-Err-run_kept.cause c.in-Ok.ensures.forced c.in-Ok.ensures.ok (c.in-Err-run_kept.ensures.err other)

pub returns-in-Err-run_kept-clause-memory : goal.returns-in-Err-run_kept-clause-memory
returns-in-Err-run_kept-clause-memory c = λ memory.
    parts_without_memory c.args.forced.now c.args.options.now (each_of c.args.parts.now) c.in-Ok.session c.in-Ok.ensures.forced
    c.in-Ok.ensures.ok (c.in-Err-run_kept.ensures.memory memory)
