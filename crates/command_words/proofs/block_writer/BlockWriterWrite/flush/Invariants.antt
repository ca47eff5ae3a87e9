use Rattle.std.proofs.Common.{length}
use Rattle.std.specs.Io.KnownBytes.{Keeps, append_known}
use Rattle.command_words.proofs.block_writer.BlockWriterWrite.flush.Given as goal

abbrev pub invariant-loop-self : goal.invariant-loop-self
invariant-loop-self g l =
    Keeps (append_known (g.W.Write.contents l.initial.self.device) l.initial.self.waiting)
    (append_known (g.W.Write.contents l.self.device) l.self.waiting)

abbrev pub decreases-loop-self : goal.decreases-loop-self
decreases-loop-self g l = length l.self.waiting
