use Rattle.std.proofs.Common.{rules, ◌≡◌, subst, sym}
use Rattle.std.specs.Prelude.{Err, IfErr}
use Rattle.host.specs.Answers.{Stops}
use Rattle.v7_origin.specs.Runs.{any_refused}
use Rattle.v7_origin.proofs.RunLemmas.{next_refused, next_taken}
use Rattle.v7_origin.proofs.reading.objects_of.Goals as goal

pub returns-in_err-object_of-clause-err : goal.returns-in_err-object_of-clause-err
returns-in_err-object_of-clause-err c =
    let fault = c.in_err-object_of.field-0.0 in
    let is : c.from_residual.result ≡ Err fault = search rules in
    subst (λ r. IfErr r (λ f. Stops (any_refused c.args.sources.now) 2 f)) (sym is)
    (next_refused c.args.sources.now c.loop-source.source-index c.source-item.result c.loop-source-test.true c.source-item.is
    c.loop-source.invariant fault c.in_err-object_of.ensures.err)

pub loop-source-preserved : goal.loop-source-preserved
loop-source-preserved c =
    next_taken c.args.sources.now c.loop-source.source-index c.source-item.result c.loop-source-test.true c.source-item.is
    c.loop-source.invariant c.in_ok-object_of.ensures.taken
