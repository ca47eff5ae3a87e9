use Rattle.std.proofs.{Common.arith, lemmas.Grind.common_steps}
use Rattle.aout_core.proofs.object.first_bad_word.Goals as goal

pub returns-then-is_some : goal.returns-then-is_some
returns-then-is_some c = grind (arith, common_steps)

pub loop-n-preserved : goal.loop-n-preserved
loop-n-preserved c = grind (arith, common_steps)

pub returns : goal.returns
returns c = grind (arith, common_steps)
