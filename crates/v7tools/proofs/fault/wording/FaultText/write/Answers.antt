use Rattle.std.proofs.Common.{append_assoc, subst, sym}
use Rattle.aout_core.specs.{Wires.Writes, FaultTexts.number_text}
use Rattle.aout_core.proofs.PutsLemmas.{writes_both, writes_no_more}
use Rattle.v7tools.specs.internal.FaultParts.{path_text}
use Rattle.v7tools.proofs.fault.wording.FaultText.write.Goals as goal

pub returns-in_err-put_path : goal.returns-in_err-put_path
returns-in_err-put_path g c =
    let text = c.args.self.now in
    subst (Writes g.W.Write.contents c.from_residual.result c.args.out.now c.put_path.new.out)
    (sym (append_assoc (path_text text.path) text.words.now (number_text text.index)))
    (writes_no_more _ c.from_residual.ensures.0 c.in_err-put_path.ensures)

pub returns-in_err-put : goal.returns-in_err-put
returns-in_err-put g c =
    writes_no_more _ c.from_residual-in_err-put.ensures.0
    (writes_both c.in_ok-put_path.ensures (rw c.as_bytes.ensures.value at c.in_err-put.ensures.writes))

pub returns : goal.returns
returns g c =
    writes_both (writes_both c.in_ok-put_path.ensures (rw c.as_bytes.ensures.value at c.in_ok-put.ensures.writes)) c.put_index.ensures
