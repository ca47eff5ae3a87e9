use Rattle.std.proofs.Common.{ℕ, List, ◌++◌, subst, sym, ap, ◌∙◌}
use Rattle.std.specs.Prelude.{codes}
use Rattle.aout_core.specs.Wires.{Writes}
use Rattle.link_out.specs.function.Reports.{entry_lines}
use Rattle.link_out.proofs.ReportLemmas.{entry_line}
use Rattle.link_out.proofs.linked.Report.write_entry.Goals as goal

pub returns : goal.returns
returns g c =
    let text = codes ": Entry point not in text\n" in
    let is_line = ap (λ (name : List ℕ). name ++ text) c.as_bytes.ensures.value ∙ entry_line c.in-Some.name
    ∙ ap entry_lines (sym c.in-Some.is) in
    subst (Writes g.W.Write.contents c.put_both.result c.args.out.now c.put_both.new.self) is_line c.put_both.ensures
