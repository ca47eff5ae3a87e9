use Rattle.std.proofs.Common.{◌∙◌, cond, sym, ap}
use Rattle.link_session.specs.{Labelled.objects, Mentions.mentions}
use Rattle.link_out.specs.function.Plans.{commons_total}
use Rattle.link_out.proofs.InOrderLemmas.{commons_size-all}
use Rattle.link_out.proofs.layout.commons_laid.Goals as goal

pub returns-then-lays_commons-clause-value : goal.returns-then-lays_commons-clause-value
returns-then-lays_commons-clause-value c =
    let ms = mentions c.args.session.now.forced (objects c.args.session.now.entries) in
    c.commons_total.ensures.value
    ∙ commons_size-all ms
    ∙ ap (λ t. cond t (commons_total ms) 0) (sym (sym c.lays_commons.ensures ∙ c.if-lays_commons.true))
