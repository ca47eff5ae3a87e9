use Rattle.std.proofs.Common.{◌≡◌, drop, map, string_bytes}
use Rattle.host.specs.Arguments.{value_in, value_of}
use Rattle.host.proofs.given.Given.value_of.Given as goal

-- no value so far is that of the letter
abbrev pub invariant-loop-other : goal.invariant-loop-other
invariant-loop-other l =
    value_of l.fn.self l.letter ≡ value_in (map (λ v. (v.0, string_bytes v.1)) (drop l.other-index l.other-items)) l.letter
