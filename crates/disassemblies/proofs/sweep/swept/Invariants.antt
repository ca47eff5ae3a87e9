use Rattle.std.proofs.Common.{◌≡◌, ◌-◌, ◌≤◌, ◌++◌, [], length}
use Rattle.instructions.specs.declared.unix.Decoder.TheVariants.{Unix}
use Rattle.disassemblies.specs.{Listed.listed_line, Starts.lines_from, internal.Swept.line_words, internal.Swept.swept}
use Rattle.disassemblies.proofs.sweep.swept.Given as goal

-- what has been appended, and what the lines give that are left, are the whole
abbrev pub invariant-loop-place : goal.invariant-loop-place
invariant-loop-place l =
    (l.lines.items ++ lines_from Unix l.listed (λ place n. line_words (listed_line Unix l.listed place) n)
    [] (length l.listed.text_words - l.place) l.place
    ≡ swept Unix l.listed)
    × (l.place ≤ length l.listed.text_words)
    × (l.end ≡ length l.listed.text_words)

abbrev pub decreases-loop-place : goal.decreases-loop-place
decreases-loop-place l = length l.listed.text_words - l.place
