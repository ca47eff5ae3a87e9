use Rattle.std.proofs.Common.{◌≡◌, ◌<◌, drop}
use Rattle.v7_explain.specs.Files.{octal_from}
use Rattle.v7_explain.proofs.asked.octal_number.Given as goal

abbrev pub invariant-loop-digit : goal.invariant-loop-digit
invariant-loop-digit l = (l.sum < 0o100000000000) × (octal_from l.sum (drop l.digit-index l.digits) ≡ octal_from 0 l.digits)
