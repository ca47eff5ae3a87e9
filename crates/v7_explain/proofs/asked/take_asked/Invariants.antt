use Rattle.std.proofs.Common.{◌≡◌, length, map, string_bytes}
use Rattle.v7_explain.specs.Calls.{words_of_link}
use Rattle.v7_explain.proofs.asked.take_asked.Given as goal

abbrev pub invariant-loop-alloc : goal.invariant-loop-alloc
invariant-loop-alloc l = words_of_link (map string_bytes l.words) ≡ words_of_link (map string_bytes l.rest)

abbrev pub decreases-loop-alloc : goal.decreases-loop-alloc
decreases-loop-alloc l = length l.rest
