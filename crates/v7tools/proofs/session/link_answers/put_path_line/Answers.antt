use Rattle.std.proofs.Common.{[], ◌∷◌}
use Rattle.aout_core.proofs.PutsLemmas.{writes_both, writes_no_more}
use Rattle.v7tools.proofs.session.link_answers.put_path_line.Goals as goal

pub returns-in_err-write : goal.returns-in_err-write
returns-in_err-write g c = writes_no_more (10 ∷ []) c.from_residual.ensures.0 (rw c.says_of.ensures at c.in_err-write.ensures)

pub returns : goal.returns
returns g c = writes_both (rw c.says_of.ensures at c.in_ok-write.ensures) c.put.ensures.writes
