use Rattle.std.proofs.Common.{rules}
use Rattle.link_session.proofs.relocate.Starts.shifts.Goals as goal

pub returns : goal.returns
returns c = search rules
