use Rattle.std.proofs.Common.{◌≡◌}
use Rattle.gnu_objects.specs.GnuForm.{symbols_from}
use Rattle.gnu_objects.proofs.symbols.symbols_from.Given as goal

abbrev pub invariant-loop-n : goal.invariant-loop-n
invariant-loop-n l = l.symbols.items ≡ symbols_from l.bytes l.at l.n
