use Rattle.std.proofs.Common.{rules}
use Rattle.link_out.proofs.layout.data_base.Goals as goal

pub returns-in-Pure-clause-value : goal.returns-in-Pure-clause-value
returns-in-Pure-clause-value c = search rules
