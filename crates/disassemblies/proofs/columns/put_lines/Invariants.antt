use Rattle.std.proofs.Common.{◌≡◌, ◌-◌, ◌≤◌, length}
use Rattle.disassemblies.proofs.columns.put_lines.Given as goal

abbrev pub invariant-loop-place : goal.invariant-loop-place
invariant-loop-place l = (l.place ≤ length l.lines.text_words) × (l.end ≡ length l.lines.text_words)

abbrev pub decreases-loop-place : goal.decreases-loop-place
decreases-loop-place l = length l.lines.text_words - l.place
