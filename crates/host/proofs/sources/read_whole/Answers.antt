use Rattle.std.proofs.Common.{arith}
use Rattle.host.proofs.ReadingLemmas.{reads_kept, reads_too_much}
use Rattle.host.proofs.sources.read_whole.Goals as goal

pub returns-clause-ok : goal.returns-clause-ok
returns-clause-ok g c =
    reads_kept _ _ _ _ c.args.most c.in_ok-bytes.bytes.items c.unless_long.result c.in_ok-bytes.ensures.ok (omega arith) c.unless_long.ensures.same
    c.unless_long.ensures.within

pub returns-clause-err : goal.returns-clause-err
returns-clause-err g c = reads_too_much _ _ _ _ c.args.most c.in_ok-bytes.bytes.items c.unless_long.result c.in_ok-bytes.ensures.ok c.unless_long.ensures.err
