use Rattle.std.proofs.Common.{◌≡◌, false, List, [], ℕ, ◌++◌, length}
use Rattle.std.specs.Io.KnownBytes.{Appends}
use Rattle.aout_core.proofs.wire.Wire.put.Given as goal

abbrev pub invariant-loop-rest : goal.invariant-loop-rest
invariant-loop-rest g l =
    (l.self-inside.has_failed ≡ false) × (l.bytes ≡ [] → l.self-inside ≡ l.initial.self-inside) × (done : List ℕ)
    × (l.bytes ≡ done ++ l.rest)
    × Appends (g.W.Write.contents l.initial.self-inside.device) (g.W.Write.contents l.self-inside.device) done

abbrev pub decreases-loop-rest : goal.decreases-loop-rest
decreases-loop-rest g l = length l.rest
