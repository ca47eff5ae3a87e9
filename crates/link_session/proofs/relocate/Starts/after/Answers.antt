use Rattle.std.proofs.Common.{refl}
use Rattle.link_session.proofs.relocate.Starts.after.Goals as goal

pub returns : goal.returns
returns c = refl
