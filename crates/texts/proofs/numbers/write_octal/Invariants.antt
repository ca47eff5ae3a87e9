use Rattle.std.proofs.Common.{◌≡◌, ◌+◌, ◌^◌, ◌<◌, drop, length}
use Rattle.texts.specs.Numbers.{octal}
use Rattle.texts.proofs.OctalLemmas.{digits_left}
use Rattle.texts.proofs.numbers.write_octal.Given as goal

abbrev pub invariant-loop-rest : goal.invariant-loop-rest
invariant-loop-rest l =
    (length l.places ≡ 22) × (l.start < 22) × (l.rest < 8 ^ (l.start + 1))
    × (octal l.initial.number ≡ digits_left l.start l.rest (drop l.start l.places))

abbrev pub decreases-loop-rest : goal.decreases-loop-rest
decreases-loop-rest l = l.start
