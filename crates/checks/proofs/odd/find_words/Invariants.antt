use Rattle.std.proofs.Common.{◌≡◌, ◌++◌, drop, false}
use Rattle.std.specs.List.{flat_map}
use Rattle.aout_core.specs.Placed.{placed_from, placed_words}
use Rattle.checks.specs.Odd.{odd_word}
use Rattle.checks.proofs.odd.find_words.Given as goal

-- the findings so far, and those of the words that are left
abbrev pub invariant-loop-number : goal.invariant-loop-number
invariant-loop-number l =
    l.findings.is_cut ≡ false → (l.initial.findings.is_cut ≡ false)
    × (l.findings.found ++ flat_map (odd_word l.sweep) (placed_from l.sweep l.part l.number (drop l.number l.words))
    ≡ l.initial.findings.found ++ flat_map (odd_word l.sweep) (placed_words l.sweep l.part))
