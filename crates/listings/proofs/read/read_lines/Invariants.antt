use Rattle.std.proofs.Common.{◌≡◌, ◌+◌, ◌≤◌, length}
use Rattle.texts.specs.Lines.{lines_in}
use Rattle.listings.specs.{internal.DraftParts.draft_of, internal.Lines.state_of, MemoryWanted.MayRunOutInLines, Reading.lines_read}
use Rattle.listings.specs.internal.Whole.{IsDraft}
use Rattle.listings.proofs.read.read_lines.Given as goal

abbrev pub invariant-loop-rest : goal.invariant-loop-rest
invariant-loop-rest l =
    (l.number + length l.rest ≤ 1 + length l.fn.text)
    × IsDraft (draft_of l.draft)
    × (lines_read (state_of l.number l.draft l.noting) (lines_in l.rest)
    ≡ lines_read (state_of 1 l.fn.draft l.fn.noting) (lines_in l.fn.text))
    × (MayRunOutInLines (state_of l.number l.draft l.noting) (lines_in l.rest) →
    MayRunOutInLines (state_of 1 l.fn.draft l.fn.noting) (lines_in l.fn.text))

abbrev pub decreases-loop-rest : goal.decreases-loop-rest
decreases-loop-rest l = length l.rest
