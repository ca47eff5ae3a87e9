use Rattle.std.proofs.Common.{ap, sym}
use Rattle.link_session.specs.Starts.{shift_by}
use Rattle.link_session.proofs.relocate.Shifts.of.Goals as goal

pub returns-in-BssSeg : goal.returns-in-BssSeg
returns-in-BssSeg c = sym (ap (shift_by c.args.self.now) c.in-BssSeg.is)
