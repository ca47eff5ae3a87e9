use Rattle.std.proofs.Common.{◌≡◌, false, take, length}
use Rattle.std.specs.{List.flat_map, Io.KnownBytes.Appends}
use Rattle.symtools.proofs.TextLemmas.{sized}
use Rattle.symtools.proofs.sizes.size.Given as goal

abbrev pub invariant-loop-path : goal.invariant-loop-path
invariant-loop-path g l =
    (l.out.has_failed ≡ false)
    × Appends (g.W.Write.contents l.initial.out.device) (g.W.Write.contents l.out.device)
    (flat_map (sized (length l.files)) (take l.path-index l.files))
