use Rattle.link_out.specs.function.Reports.{undefined_lines}
use Rattle.aout_core.proofs.PutsLemmas.{writes_both, writes_no_more}
use Rattle.link_out.proofs.linked.Report.write_entry_and_undefined.Goals as goal

pub returns-in_err-write_entry : goal.returns-in_err-write_entry
returns-in_err-write_entry g c =
    writes_no_more (undefined_lines c.args.self.now.undefined.items) c.from_residual.ensures.0 c.in_err-write_entry.ensures

pub returns : goal.returns
returns g c = writes_both c.in_ok-write_entry.ensures c.write_undefined.ensures
