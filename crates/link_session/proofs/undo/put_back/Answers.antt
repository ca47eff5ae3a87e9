use Rattle.std.proofs.{Common.arith, lemmas.Grind.common_steps}
use Rattle.link_session.proofs.undo.put_back.Goals as goal

pub returns-after-place-clause-threads : goal.returns-after-place-clause-threads
returns-after-place-clause-threads c = grind (arith, common_steps)
