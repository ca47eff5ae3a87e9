use Rattle.aout_core.proofs.PutsLemmas.{writes_both, writes_no_more}
use Rattle.aout_core.proofs.wire.Wire.put_both.Goals as goal

pub returns-in_err-put : goal.returns-in_err-put
returns-in_err-put g c = writes_no_more c.args.second.now c.from_residual.ensures.0 c.in_err-put.ensures.writes

pub returns : goal.returns
returns g c = writes_both c.in_ok-put.ensures.writes c.put-2.ensures.writes
