use Rattle.std.proofs.Common.{◌≡◌, ℕ, List, ◌++◌, drop, take, false}
use Rattle.std.specs.{BTreeMap.get, Cmp.Lexicographic.slice_cmp, Ordering.nat_cmp}
use Rattle.aout_core.specs.WellFormed.{is_external}
use Rattle.checks.specs.Odd.{first_named, odd_symbols}
use Rattle.checks.proofs.odd.find_symbols.Given as goal

-- the findings so far, and those of the symbols that are left; and the names of the symbols so far are noted
abbrev pub invariant-loop-number : goal.invariant-loop-number
invariant-loop-number l =
    (l.findings.is_cut ≡ false → (l.initial.findings.is_cut ≡ false)
    × (l.findings.found ++ odd_symbols l.source.commons l.source.sweep.now l.source.bytes.now l.number (drop l.number l.symbols)
    ≡ l.initial.findings.found ++ odd_symbols l.source.commons l.source.sweep.now l.source.bytes.now 0 l.symbols))
    × ((other : List ℕ) → get (slice_cmp nat_cmp) l.seen other ≡ first_named is_external other (take l.number l.symbols))
