use Rattle.std.proofs.Common.{◌++◌, subst}
use Rattle.std.specs.{Prelude.codes, List.flat_map}
use Rattle.aout_core.specs.Wires.{Writes}
use Rattle.aout_core.proofs.PutsLemmas.{writes_both, writes_no_more}
use Rattle.link_out.proofs.ReportLemmas.{both_multiple}
use Rattle.link_out.proofs.linked.Report.write_multiples.Goals as goal

pub returns-in_err-put_names : goal.returns-in_err-put_names
returns-in_err-put_names g c =
    let r = c.args.self.now in
    subst (Writes g.W.Write.contents c.from_residual.result c.args.out.now c.put_names.new.out)
    (both_multiple r.multiples.items r.reserved.items)
    (writes_no_more (flat_map (λ n. n ++ codes ": Multiply defined\n") r.reserved.items) c.from_residual.ensures.0
    (rw c.deref.ensures.value at c.in_err-put_names.ensures))

pub returns : goal.returns
returns g c =
    let r = c.args.self.now in
    subst (Writes g.W.Write.contents c.put_names-2.result c.args.out.now c.put_names-2.new.out)
    (both_multiple r.multiples.items r.reserved.items)
    (writes_both (rw c.deref.ensures.value at c.in_ok-put_names.ensures) (rw c.deref-2.ensures.value at c.put_names-2.ensures))
