use Rattle.link_out.specs.Outcomes.{report_names}
use Rattle.libv7.proofs.PlaceLemmas.{placed}
use Rattle.libv7.proofs.places.places_of.Goals as goal

pub returns : goal.returns
returns c =
    placed c.in_ok-index.index c.entries.result.now c.args.session.entries c.args.session.forced c.deref.result.now
    c.in_ok-numbers.numbers.items c.in_ok-names.names.items c.deref-2.result.now (report_names c.args.report.now) c.places_with.result
    c.entries.ensures.value c.in_ok-index.ensures c.deref.ensures.value c.in_ok-numbers.ensures.value c.deref-2.ensures.value
    c.in_ok-names.ensures c.places_with.ensures
