use Rattle.std.proofs.Common.{rules}
use Rattle.aout_core.proofs.block.Block.take_in.Goals as goal

pub returns-clause-count : goal.returns-clause-count
returns-clause-count c = search rules
