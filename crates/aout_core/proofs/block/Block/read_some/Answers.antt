use Rattle.std.proofs.Common.{rules}
use Rattle.aout_core.proofs.block.Block.read_some.Goals as goal

pub returns-clause-bytes : goal.returns-clause-bytes
returns-clause-bytes g c = search rules

pub returns-clause-end : goal.returns-clause-end
returns-clause-end g c = search rules
