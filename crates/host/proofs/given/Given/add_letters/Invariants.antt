use Rattle.std.proofs.Common.{◌≡◌, drop}
use Rattle.host.specs.Arguments.{letters_read}
use Rattle.host.proofs.given.Given.add_letters.Given as goal

-- the letters so far are taken
abbrev pub invariant-loop-letter : goal.invariant-loop-letter
invariant-loop-letter l =
    letters_read l.fn.flags l.fn.valued l.fn.self l.letters ≡ letters_read l.fn.flags l.fn.valued l.self (drop l.letter-index l.letters)
