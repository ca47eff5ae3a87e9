use Rattle.std.proofs.Common.{rules}
use Rattle.aout_core.proofs.block.Block.send.Goals as goal

pub returns-clause-empty : goal.returns-clause-empty
returns-clause-empty g c = search rules
