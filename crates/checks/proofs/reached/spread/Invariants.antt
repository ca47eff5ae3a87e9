use Rattle.std.proofs.Common.{◌≡◌, ◌-◌, length}
use Rattle.checks.specs.{Reached.spread, internal.Marks.AreMarks}
use Rattle.checks.proofs.reached.spread.Given as goal

-- what the places that are left lead to, and the marks
abbrev pub invariant-loop-next : goal.invariant-loop-next
invariant-loop-next l =
    (spread l.evidence l.sweep (length l.sweep.text_words - l.next) l.next l.found.items
    ≡ spread l.evidence l.sweep (length l.sweep.text_words) 0 l.initial.found.items)
    × AreMarks l.marks l.found.items
    × (length l.marks ≡ length l.sweep.text_words)
