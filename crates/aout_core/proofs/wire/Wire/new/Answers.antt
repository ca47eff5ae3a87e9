use Rattle.std.proofs.Common.{rules}
use Rattle.aout_core.proofs.wire.Wire.new.Goals as goal

pub returns-clause-latch : goal.returns-clause-latch
returns-clause-latch g c = search rules
