use Rattle.std.proofs.Common.{rules}
use Rattle.tool_options.proofs.options.Options.force_commons.Goals as goal

pub returns : goal.returns
returns c = search rules
