use Rattle.std.proofs.Common.{◌≡◌, ◌∷◌, ◌++◌, drop, map}
use Rattle.checks.specs.Reached.{named, entry}
use Rattle.checks.proofs.reached.evident.Given as goal

-- the addresses so far, and those of the symbols that are left
abbrev pub invariant-loop-symbol : goal.invariant-loop-symbol
invariant-loop-symbol l =
    l.list.items ++ map (named l.evidence l.file) (drop l.symbol-index l.symbols)
    ≡ entry l.file.header ∷ map (named l.evidence l.file) l.symbols
