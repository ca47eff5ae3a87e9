use Rattle.std.proofs.Common.{refl}
use Rattle.tool_options.proofs.forced.Forced.none.Goals as goal

pub returns : goal.returns
returns c = refl
