use Rattle.std.proofs.Common.{◌∙◌, sym, ap}
use Rattle.link_out.specs.{function.Reports.entry_word, function.Reports.entry_found_bad, internal.Planned.plan_in}
use Rattle.link_out.proofs.ReportNameLemmas.{entry_at, entry_nowhere}
use Rattle.link_out.proofs.report.entry_point.Goals as goal

pub returns-in-Some-address_in_text-clause-address : goal.returns-in-Some-address_in_text-clause-address
returns-in-Some-address_in_text-clause-address c =
    let p = plan_in c.args.plan.now in
    (entry_at p c.args.finals.now c.in-Some.name c.in-Some-address_in_text.address c.requires
    (sym c.in-Some-address_in_text.is ∙ c.address_in_text.ensures)).0
    ∙ ap (entry_word p) (sym c.in-Some.is ∙ c.entry.ensures)

pub returns-in-Some-address_in_text-clause-bad : goal.returns-in-Some-address_in_text-clause-bad
returns-in-Some-address_in_text-clause-bad c =
    let p = plan_in c.args.plan.now in
    (entry_at p c.args.finals.now c.in-Some.name c.in-Some-address_in_text.address c.requires
    (sym c.in-Some-address_in_text.is ∙ c.address_in_text.ensures)).1
    ∙ ap (entry_found_bad p) (sym c.in-Some.is ∙ c.entry.ensures)

pub returns-in-None-clause-address : goal.returns-in-None-clause-address
returns-in-None-clause-address c =
    let p = plan_in c.args.plan.now in
    (entry_nowhere p c.args.finals.now c.in-Some.name c.requires (sym c.in-None.is ∙ c.address_in_text.ensures)).0
    ∙ ap (entry_word p) (sym c.in-Some.is ∙ c.entry.ensures)

pub returns-in-None-clause-bad : goal.returns-in-None-clause-bad
returns-in-None-clause-bad c =
    let p = plan_in c.args.plan.now in
    (entry_nowhere p c.args.finals.now c.in-Some.name c.requires (sym c.in-None.is ∙ c.address_in_text.ensures)).1
    ∙ ap (entry_found_bad p) (sym c.in-Some.is ∙ c.entry.ensures)
