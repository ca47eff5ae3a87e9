use Rattle.std.proofs.Common.{◌≡◌, drop}
use Rattle.host.specs.Arguments.{first_in}
use Rattle.host.proofs.given.first_in.Given as goal

-- no letter so far is looked for
abbrev pub invariant-loop-letter : goal.invariant-loop-letter
invariant-loop-letter l = first_in l.set l.letters ≡ first_in l.set (drop l.letter-index l.letters)
