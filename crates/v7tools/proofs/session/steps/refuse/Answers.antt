use Rattle.aout_core.proofs.PutsLemmas.{writes_broke_off}
use Rattle.v7tools.proofs.session.steps.refuse.Goals as goal

pub returns-in_err-put_fault-clause-written : goal.returns-in_err-put_fault-clause-written
returns-in_err-put_fault-clause-written g c = writes_broke_off c.from_residual.ensures.0 c.in_err-put_fault.ensures
