use Rattle.std.proofs.Common.{◌≡◌, ◌++◌, drop}
use Rattle.gnu_objects.specs.{Clashes.externals_in, internal.Externals.names_in}
use Rattle.gnu_objects.proofs.clash.push_externals.Given as goal

-- the externals so far, and those of the symbols that are left
abbrev pub invariant-loop-symbol : goal.invariant-loop-symbol
invariant-loop-symbol l =
    names_in l.all.items ++ externals_in l.strings (drop l.symbol-index l.symbols)
    ≡ names_in l.initial.all.items ++ externals_in l.strings l.symbols
