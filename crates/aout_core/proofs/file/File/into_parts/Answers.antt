use Rattle.std.proofs.Common.{rules}
use Rattle.aout_core.proofs.file.File.into_parts.Goals as goal

pub returns : goal.returns
returns c = search rules
