use Rattle.std.proofs.Common.{◌≡◌, ◌-◌, ◌≤◌, ◌++◌, [], length}
use Rattle.disassemblies.specs.Starts.{lines_from, start, starts}
use Rattle.disassemblies.proofs.starts.starts.Given as goal

-- what has been appended, and what the lines give that are left, are the whole
abbrev pub invariant-loop-place : goal.invariant-loop-place
invariant-loop-place l =
    (l.starts.items ++ lines_from l.decoder l.lines (λ place n. start n) [] (length l.lines.text_words - l.place) l.place
    ≡ starts l.decoder l.lines)
    × (l.place ≤ length l.lines.text_words)
    × (l.end ≡ length l.lines.text_words)

abbrev pub decreases-loop-place : goal.decreases-loop-place
decreases-loop-place l = length l.lines.text_words - l.place
