use Rattle.std.proofs.Common.{length}
use Rattle.instructions.proofs.OrderLemmas.{Holds}
use Rattle.instructions.proofs.row.row_of.Given as goal

abbrev pub invariant-loop-left : goal.invariant-loop-left
invariant-loop-left l = Holds l.word l.left

abbrev pub decreases-loop-left : goal.decreases-loop-left
decreases-loop-left l = length l.left
