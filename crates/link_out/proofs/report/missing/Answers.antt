use Rattle.std.proofs.lemmas.Iterator.Consumers.{YieldsList-at, YieldsList-from_first, YieldsList-from_filter}
use Rattle.std.proofs.{Common.rules, Common.tests, lemmas.Iterator.items_from_collect, lemmas.Iterator.YieldsList-from_map}
use Rattle.link_session.specs.Undo.{image_of}
use Rattle.link_out.specs.function.Reports.{is_missing}
use Rattle.link_out.proofs.report.missing.Goals as goal

pub returns : goal.returns
returns c =
    items_from_collect c.collect.result c.collect.ensures.ran
    (YieldsList-from_map {s = c.map.result} _ (λ e. e.0)
    (YieldsList-at c.map.ensures.source
    (YieldsList-from_filter {s = c.filter.result} _ (λ e. is_missing e.0 e.1)
    (YieldsList-at c.filter.ensures.source (YieldsList-from_first (λ e. e)
    (λ left. left) {s = c.externals.result} (image_of c.args.session.now).externals c.externals.ensures.value))
    c.filter.ensures.closure
    (λ x b q k. search (rules, tests))))
    c.map.ensures.closure
    (λ x r q k. search (rules, tests)))
