use Rattle.std.proofs.{Common.◌∙◌, Common.[], Common.cond, Common.sym, Common.ap, lemmas.Result.IfOk-weaker}
use Rattle.link_session.specs.{Labelled.objects, Mentions.mentions}
use Rattle.link_out.specs.function.Reports.{undefined_names}
use Rattle.link_out.proofs.ReportNameLemmas.{missing-in_order}
use Rattle.link_out.proofs.report.undefined_names.Goals as goal

pub returns : goal.returns
returns c =
    let s = c.args.plan.now.session.now in
    let ms = mentions s.forced (objects s.entries) in
    IfOk-weaker c.missing.result _ _
    (λ names h. h ∙ missing-in_order ms
    ∙ ap (λ t. cond t [] (undefined_names ms)) (sym c.if-is_relocatable.false ∙ c.is_relocatable.ensures))
    c.missing.ensures
