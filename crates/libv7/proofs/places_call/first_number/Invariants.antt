use Rattle.std.proofs.Common.{◌≡◌, ◌+◌, drop}
use Rattle.libv7.specs.internal.Shown.{first_number}
use Rattle.libv7.proofs.places_call.first_number.Given as goal

abbrev pub invariant-loop-i : goal.invariant-loop-i
invariant-loop-i l = first_number l.symbols l.name ≡ l.i + first_number (drop l.i l.symbols) l.name
