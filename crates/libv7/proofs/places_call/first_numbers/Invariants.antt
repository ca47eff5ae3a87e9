use Rattle.std.proofs.Common.{◌≡◌, take, map}
use Rattle.libv7.specs.internal.Shown.{first_number}
use Rattle.libv7.proofs.places_call.first_numbers.Given as goal

abbrev pub invariant-loop-symbol : goal.invariant-loop-symbol
invariant-loop-symbol l = l.firsts.items ≡ map (λ s. first_number l.symbols s.name) (take l.symbol-index l.symbols)
