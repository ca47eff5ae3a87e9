use Rattle.std.proofs.Common.{rules}
use Rattle.aout_core.proofs.strip.strip_file.Goals as goal

pub returns : goal.returns
returns c = search rules
