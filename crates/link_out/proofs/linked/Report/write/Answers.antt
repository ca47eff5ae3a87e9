use Rattle.std.proofs.Common.{◌++◌}
use Rattle.link_out.specs.function.Reports.{entry_lines, undefined_lines}
use Rattle.aout_core.proofs.PutsLemmas.{writes_both, writes_no_more}
use Rattle.link_out.proofs.linked.Report.write.Goals as goal

pub returns-in_err-write_multiples : goal.returns-in_err-write_multiples
returns-in_err-write_multiples g c =
    let r = c.args.self.now in
    writes_no_more (entry_lines r.entry_bad ++ undefined_lines r.undefined.items) c.from_residual.ensures.0 c.in_err-write_multiples.ensures

pub returns : goal.returns
returns g c = writes_both c.in_ok-write_multiples.ensures c.write_entry_and_undefined.ensures
