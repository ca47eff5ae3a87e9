use Rattle.std.proofs.Common.{[], ◌∷◌}
use Rattle.aout_core.proofs.PutsLemmas.{writes_both, writes_no_more}
use Rattle.v7tools.proofs.session.steps.put_line.Goals as goal

pub returns-in_err-put_both : goal.returns-in_err-put_both
returns-in_err-put_both g c = writes_no_more (10 ∷ []) c.from_residual.ensures.0 c.in_err-put_both.ensures

pub returns : goal.returns
returns g c = writes_both c.in_ok-put_both.ensures c.put.ensures.writes
