use Rattle.std.proofs.Common.{◌≡◌, [], length}
use Rattle.disassemblies.proofs.columns.put_plain_disassembly.Given as goal

abbrev pub invariant-loop-rest : goal.invariant-loop-rest
invariant-loop-rest l = l.fn.words ≡ [] → (l.rest ≡ []) × (l.text ≡ l.initial.text)

abbrev pub decreases-loop-rest : goal.decreases-loop-rest
decreases-loop-rest l = length l.rest
