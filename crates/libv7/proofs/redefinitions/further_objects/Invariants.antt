use Rattle.std.proofs.Common.{◌≡◌, ◌++◌, length, reverse, take}
use Rattle.link_session.specs.Labelled.{objects}
use Rattle.libv7.specs.FindingPlaces.{further_among, further_objects}
use Rattle.libv7.proofs.redefinitions.further_objects.Given as goal

-- the first objects are left, and the numbers of the others are there, the last first
abbrev pub invariant-loop-number : goal.invariant-loop-number
invariant-loop-number l = record {
  count : length l.session.entries ≡ l.number;
  left : l.session.entries ≡ take l.number l.fn.all.entries;
  forced : l.session.forced ≡ l.fn.all.forced;
  so_far : further_among l.fn.all.forced (objects l.fn.all.entries) l.number ++ reverse l.numbers.items
      ≡ further_objects l.fn.all.forced (objects l.fn.all.entries);
}

abbrev pub decreases-loop-number : goal.decreases-loop-number
decreases-loop-number l = l.number
