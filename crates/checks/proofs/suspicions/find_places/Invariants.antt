use Rattle.std.proofs.Common.{◌≡◌, ◌++◌, drop, false}
use Rattle.checks.specs.Suspicions.{suspicious_words}
use Rattle.checks.proofs.suspicions.find_places.Given as goal

-- the findings so far, and those of the places that are left
abbrev pub invariant-loop-place : goal.invariant-loop-place
invariant-loop-place l =
    l.findings.is_cut ≡ false → (l.initial.findings.is_cut ≡ false)
    × (l.findings.found ++ suspicious_words l.marked.shown.evidence l.marked.shown.sweep.now l.place (drop l.place l.words)
    ≡ l.initial.findings.found ++ suspicious_words l.marked.shown.evidence l.marked.shown.sweep.now 0 l.marked.shown.sweep.now.text_words)
