use Rattle.std.proofs.Common.{◌≡◌, ◌≤◌}
use Rattle.disassemblies.specs.Starts.{line_start}
use Rattle.disassemblies.proofs.starts.line_start.Given as goal

-- the line that has the word at this place is the one that is looked for
abbrev pub invariant-loop-start : goal.invariant-loop-start
invariant-loop-start l = (line_start l.starts l.start ≡ line_start l.starts l.place) × (l.start ≤ l.place)

abbrev pub decreases-loop-start : goal.decreases-loop-start
decreases-loop-start l = l.start
