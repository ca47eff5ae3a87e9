use Rattle.std.proofs.Common.{◌≡◌, drop}
use Rattle.instructions.specs.internal.CallSearch.{call_in}
use Rattle.instructions.proofs.unix.call_in.Given as goal

abbrev pub invariant-loop-call : goal.invariant-loop-call
invariant-loop-call l = call_in (drop l.call-index l.calls) l.word ≡ call_in l.calls l.word
