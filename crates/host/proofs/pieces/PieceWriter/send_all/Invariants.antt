use Rattle.std.proofs.Common.{length}
use Rattle.std.specs.Io.KnownBytes.{Keeps}
use Rattle.host.specs.Pieces.{written}
use Rattle.host.proofs.pieces.PieceWriter.send_all.Given as goal

abbrev pub invariant-loop-self : goal.invariant-loop-self
invariant-loop-self g l = Keeps (written g.F.Write.contents l.initial.self) (written g.F.Write.contents l.self)

abbrev pub decreases-loop-self : goal.decreases-loop-self
decreases-loop-self g l = length l.self.held
