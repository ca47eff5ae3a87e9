use Rattle.std.proofs.Common.{◌++◌, append_assoc, subst, sym}
use Rattle.std.specs.Prelude.{codes, decimal}
use Rattle.aout_core.specs.Wires.{Writes}
use Rattle.aout_core.proofs.PutsLemmas.{writes_both, writes_no_more}
use Rattle.v7tools.proofs.session.link_answers.put_linked.Goals as goal

pub returns-in_err-put_both : goal.returns-in_err-put_both
returns-in_err-put_both g c =
    let status = decimal c.args.status in
    subst (Writes g.W.Write.contents c.from_residual.result c.args.answers.now c.put_both.new.self)
    (sym (append_assoc (codes "linked " ++ c.args.path.now) (codes " ") status))
    (writes_no_more _ c.from_residual.ensures.0 (rw c.as_bytes.ensures.value at c.in_err-put_both.ensures))

pub returns : goal.returns
returns g c =
    subst (Writes g.W.Write.contents c.put_both-2.result c.args.answers.now c.put_both-2.new.self)
    (sym (append_assoc (codes "linked " ++ c.args.path.now) (codes " ") (decimal c.args.status)))
    (writes_both (rw c.as_bytes.ensures.value at c.in_ok-put_both.ensures)
    (rw (c.as_bytes-2.ensures.value, c.format.ensures.text) at c.put_both-2.ensures))
