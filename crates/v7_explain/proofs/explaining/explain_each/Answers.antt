use Rattle.std.proofs.Common.{rules, ap, map}
use Rattle.v7_explain.proofs.EachLemmas.{each_ends, each_more, each_stops, one_left}
use Rattle.v7_explain.proofs.explaining.explain_each.Goals as goal

pub returns-in_err-more : goal.returns-in_err-more
returns-in_err-more g c =
    let all = c.args.all.now in
    each_ends _ _ _ _ _ _ _ _ _ _ _ c.loop-found.invariant
    (ap (map g.P.Explainable.path) (one_left all c.loop-found.found-index c.found-item.result c.loop-found-test.true c.found-item.is))
    c.in_err-more.ensures (search rules)

pub returns-in_err-join : goal.returns-in_err-join
returns-in_err-join g c =
    let all = c.args.all.now in
    each_stops _ _ _ _ _ _ _ _ _ _ _ c.loop-found.invariant
    (ap (map g.P.Explainable.path) (one_left all c.loop-found.found-index c.found-item.result c.loop-found-test.true c.found-item.is))
    c.in_ok-more.ensures (search rules)

pub loop-found-preserved : goal.loop-found-preserved
loop-found-preserved g c =
    let all = c.args.all.now in
    each_more _ _ _ _ _ _ _ _ _ _ _ c.loop-found.invariant
    (ap (map g.P.Explainable.path) (one_left all c.loop-found.found-index c.found-item.result c.loop-found-test.true c.found-item.is))
    c.in_ok-more.ensures (search rules)
