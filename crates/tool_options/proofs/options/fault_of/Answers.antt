use Rattle.std.proofs.Common.{rules}
use Rattle.tool_options.proofs.options.fault_of.Goals as goal

pub returns-in-Nothing-default : goal.returns-in-Nothing-default
returns-in-Nothing-default c = search rules
