use Rattle.v7_from_gnu.proofs.ConvertingLemmas.{converting_fails}
use Rattle.v7_from_gnu.proofs.converting.convert_each.Goals as goal

pub returns-in-Err-clause-err : goal.returns-in-Err-clause-err
returns-in-Err-clause-err c =
    converting_fails c.args.options c.loop-source.targets.items c.args.sources.items
    c.loop-source.source-iterator.rest.items c.next.new.self.rest.items c.in-Some.source c.in-Err.fault
    c.loop-source.invariant c.in-Some.ensures.steps.0 c.in-Err.ensures
