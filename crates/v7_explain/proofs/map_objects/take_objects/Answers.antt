use Rattle.std.proofs.Common.{rules}
use Rattle.v7_explain.proofs.EachLemmas.{each_ends, each_more, each_stops, paths_left}
use Rattle.v7_explain.proofs.map_objects.take_objects.Goals as goal

pub returns-in_err-more : goal.returns-in_err-more
returns-in_err-more g c =
    each_ends _ _ _ _ _ _ _ _ _ _ _ c.loop-path.invariant
    (paths_left c.args.paths.now c.loop-path.path-index c.path-item.result c.as_str.result.now c.loop-path-test.true c.path-item.is
    (search rules)) c.in_err-more.ensures (search rules)

pub returns-in_err-join : goal.returns-in_err-join
returns-in_err-join g c =
    each_stops _ _ _ _ _ _ _ _ _ _ _ c.loop-path.invariant
    (paths_left c.args.paths.now c.loop-path.path-index c.path-item.result c.as_str.result.now c.loop-path-test.true c.path-item.is
    (search rules)) c.in_ok-more.ensures (search rules)

pub loop-path-preserved : goal.loop-path-preserved
loop-path-preserved g c =
    each_more _ _ _ _ _ _ _ _ _ _ _ c.loop-path.invariant
    (paths_left c.args.paths.now c.loop-path.path-index c.path-item.result c.as_str.result.now c.loop-path-test.true c.path-item.is
    (search rules)) c.in_ok-more.ensures (search rules)
