use Rattle.std.proofs.Common.{◌≡◌, drop, length}
use Rattle.checks.specs.{Reached.visited_all, internal.Marks.AreMarks}
use Rattle.checks.proofs.reached.visit_all.Given as goal

-- what the addresses that are left give, and the marks
abbrev pub invariant-loop-address : goal.invariant-loop-address
invariant-loop-address l =
    (visited_all (length l.initial.marks) l.found.items (drop l.address-index l.addresses)
    ≡ visited_all (length l.initial.marks) l.initial.found.items l.addresses)
    × AreMarks l.marks l.found.items
