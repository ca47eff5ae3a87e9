use Rattle.std.proofs.Common.{◌≡◌, ◌++◌, drop, false}
use Rattle.checks.specs.internal.BadWords.{all_bad}
use Rattle.checks.proofs.wrong.find_shown.Given as goal

abbrev pub invariant-loop-word : goal.invariant-loop-word
invariant-loop-word l =
    l.findings.is_cut ≡ false → (l.initial.findings.is_cut ≡ false)
    × (l.findings.found ++ all_bad (drop l.word-index l.bad)
    ≡ l.initial.findings.found ++ all_bad l.bad)
