use Rattle.aout_core.proofs.PutsLemmas.{writes_both, writes_no_more}
use Rattle.symtools.proofs.heading.put_heading.Goals as goal

pub returns-in_err-put : goal.returns-in_err-put
returns-in_err-put g c =
    rw c.if-not-is_wanted.false
    (writes_no_more c.args.mark.now c.from_residual.ensures.0 (rw c.as_bytes.ensures.value at c.in_err-put.ensures.writes))

pub returns : goal.returns
returns g c = rw c.if-not-is_wanted.false (writes_both (rw c.as_bytes.ensures.value at c.in_ok-put.ensures.writes) c.put-2.ensures.writes)
