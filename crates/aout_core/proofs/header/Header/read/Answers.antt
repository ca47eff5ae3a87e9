use Rattle.std.proofs.Common.{rules}
use Rattle.aout_core.proofs.header.Header.read.Goals as goal

pub returns : goal.returns
returns c = search rules
