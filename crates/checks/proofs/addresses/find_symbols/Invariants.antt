use Rattle.std.proofs.Common.{◌≡◌, ◌++◌, drop, false}
use Rattle.checks.specs.Addresses.{suspicious_symbols}
use Rattle.checks.proofs.addresses.find_symbols.Given as goal

-- the findings so far, and those of the symbols that are left
abbrev pub invariant-loop-number : goal.invariant-loop-number
invariant-loop-number l =
    l.findings.is_cut ≡ false → (l.initial.findings.is_cut ≡ false)
    × (l.findings.found ++ suspicious_symbols l.reached.evidence l.reached.sweep.now l.named l.number (drop l.number l.symbols)
    ≡ l.initial.findings.found ++ suspicious_symbols l.reached.evidence l.reached.sweep.now l.named 0 l.symbols)
