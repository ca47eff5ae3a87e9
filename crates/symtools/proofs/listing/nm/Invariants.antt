use Rattle.std.proofs.Common.{◌≡◌, ◌&&◌, not, false, take, length, nat_lt}
use Rattle.std.specs.{List.flat_map, Io.KnownBytes.Appends}
use Rattle.symtools.proofs.TextLemmas.{listed}
use Rattle.symtools.proofs.listing.nm.Given as goal

abbrev pub invariant-loop-file : goal.invariant-loop-file
invariant-loop-file g l =
    (l.out.has_failed ≡ false) × (l.is_headed ≡ not l.options.each_line && nat_lt 1 (length l.files))
    × Appends (g.W.Write.contents l.initial.out.device) (g.W.Write.contents l.out.device)
    (flat_map (listed l.options (length l.files)) (take l.file-index l.files))
