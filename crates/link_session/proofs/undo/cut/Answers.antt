use Rattle.std.proofs.Common.{rules}
use Rattle.link_session.proofs.undo.cut.Goals as goal

pub returns-clause-image : goal.returns-clause-image
returns-clause-image c = search rules
