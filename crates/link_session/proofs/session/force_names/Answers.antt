use Rattle.std.proofs.{Common.arith, lemmas.Grind.common_steps}
use Rattle.link_session.proofs.session.force_names.Goals as goal

pub mention-requires : goal.mention-requires
mention-requires c = grind (arith, common_steps)

pub loop-name-preserved : goal.loop-name-preserved
loop-name-preserved c = grind (arith, common_steps)

pub returns : goal.returns
returns c = grind (arith, common_steps)
