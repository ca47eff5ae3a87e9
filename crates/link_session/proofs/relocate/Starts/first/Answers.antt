use Rattle.std.proofs.Common.{refl}
use Rattle.link_session.proofs.relocate.Starts.first.Goals as goal

pub returns : goal.returns
returns c = refl
