use Rattle.std.proofs.Common.{◌≡◌, ◌+◌, ◌-◌, ◌≤◌}
use Rattle.disassemblies.specs.internal.Labelled.{any_marked}
use Rattle.disassemblies.proofs.listed.any_marked.Given as goal

-- the words that are left tell what all tell
abbrev pub invariant-loop-at : goal.invariant-loop-at
invariant-loop-at l =
    (any_marked l.marks l.at (l.end - l.at) ≡ any_marked l.marks l.place l.count)
    × (l.at ≤ l.end)
    × (l.end ≡ l.place + l.count)

abbrev pub decreases-loop-at : goal.decreases-loop-at
decreases-loop-at l = l.end - l.at
