use Rattle.std.proofs.Common.{◌≤◌, drop, length}
use Rattle.link_session.specs.Labelled.{objects}
use Rattle.libv7.specs.internal.Numbered.{AreNumbers}
use Rattle.libv7.proofs.numbers.numbers_of.Given as goal

-- the objects from this number on are put in
abbrev pub invariant-loop-number : goal.invariant-loop-number
invariant-loop-number l = record {
  inside : l.number ≤ length l.entries;
  are : AreNumbers l.definitions l.number (drop l.number (objects l.entries)) l.numbers;
}

abbrev pub decreases-loop-number : goal.decreases-loop-number
decreases-loop-number l = l.number
