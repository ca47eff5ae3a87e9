use Rattle.std.proofs.Common.{◌≡◌, drop, map, string_bytes}
use Rattle.host.specs.Arguments.{given_in, words_read}
use Rattle.host.proofs.given.given_in.Given as goal

-- the arguments so far are taken
abbrev pub invariant-loop-word : goal.invariant-loop-word
invariant-loop-word l =
    given_in l.fn.flags l.fn.valued (map string_bytes l.words)
    ≡ words_read l.fn.flags l.fn.valued l.given (map string_bytes (drop l.word-index l.words))
