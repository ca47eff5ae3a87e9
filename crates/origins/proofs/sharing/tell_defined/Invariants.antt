use Rattle.std.proofs.Common.{true}
use Rattle.origins.specs.Telling.{Tells, IsDefined}
use Rattle.origins.proofs.TellingLemmas.{Below}
use Rattle.origins.proofs.sharing.tell_defined.Given as goal

abbrev pub invariant-loop-i : goal.invariant-loop-i
invariant-loop-i l = Tells l.initial.table (Below (IsDefined l.initial.table l.names l.symbols) l.i) true l.table
