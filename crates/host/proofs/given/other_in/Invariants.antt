use Rattle.std.proofs.Common.{◌≡◌, drop}
use Rattle.host.specs.Arguments.{other_in}
use Rattle.host.proofs.given.other_in.Given as goal

-- no letter so far is looked for
abbrev pub invariant-loop-letter : goal.invariant-loop-letter
invariant-loop-letter l = other_in l.set l.first l.letters ≡ other_in l.set l.first (drop l.letter-index l.letters)
