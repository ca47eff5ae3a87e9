use Rattle.std.proofs.Common.{[], ◌∷◌}
use Rattle.aout_core.proofs.PutsLemmas.{writes_both, writes_no_more}
use Rattle.v7tools.proofs.session.steps.put_fault.Goals as goal

pub returns-in_err-write_text : goal.returns-in_err-write_text
returns-in_err-write_text g c = writes_no_more (10 ∷ []) c.from_residual.ensures.0 c.in_err-write_text.ensures

pub returns : goal.returns
returns g c = writes_both c.in_ok-write_text.ensures c.put.ensures.writes
