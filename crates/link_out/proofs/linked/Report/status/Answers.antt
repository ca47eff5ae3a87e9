use Rattle.std.proofs.Common.{sym, ap, ◌∙◌}
use Rattle.link_out.specs.Outcomes.{report_names}
use Rattle.link_out.proofs.ReportLemmas.{status, status_by_silence}
use Rattle.link_out.proofs.linked.Report.status.Goals as goal

pub returns-else-is_silent : goal.returns-else-is_silent
returns-else-is_silent c =
    sym (status_by_silence (report_names c.args.self.now) ∙ ap status (sym c.is_silent.ensures ∙ c.if-is_silent.false))
