use Rattle.std.proofs.Common.{◌++◌, subst, sym, ap, ◌∙◌}
use Rattle.std.specs.{Prelude.codes, List.flat_map}
use Rattle.aout_core.specs.Wires.{Writes}
use Rattle.link_out.specs.function.Reports.{undefined_lines}
use Rattle.aout_core.proofs.PutsLemmas.{writes_both, writes_no_more}
use Rattle.link_out.proofs.ReportLemmas.{undefined_line}
use Rattle.link_out.proofs.linked.Report.write_undefined.Goals as goal

pub returns-in_err-put : goal.returns-in_err-put
returns-in_err-put g c =
    let names = c.as_slice-names.result.now in
    subst (Writes g.W.Write.contents c.from_residual.result c.args.out.now c.put-2.new.self)
    (undefined_line names (sym c.is_empty.ensures ∙ c.if-is_empty.false) ∙ ap undefined_lines c.as_slice-names.ensures.value)
    (writes_no_more (flat_map (λ n. n ++ codes "\n") names) c.from_residual.ensures.0 c.in_err-put.ensures.writes)

pub returns : goal.returns
returns g c =
    let names = c.as_slice-names.result.now in
    subst (Writes g.W.Write.contents c.put_names.result c.args.out.now c.put_names.new.out)
    (undefined_line names (sym c.is_empty.ensures ∙ c.if-is_empty.false) ∙ ap undefined_lines c.as_slice-names.ensures.value)
    (writes_both c.in_ok-put.ensures.writes c.put_names.ensures)
