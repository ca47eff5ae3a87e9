use Rattle.std.proofs.Common.{◌≡◌, ◌+◌, length, false}
use Rattle.std.specs.Io.KnownBytes.{Consumes}
use Rattle.host.proofs.sources.bytes_on.Given as goal

abbrev pub invariant-loop-left : goal.invariant-loop-left
invariant-loop-left g l =
    (l.source.has_failed ≡ false) × (length l.bytes.items + l.left ≡ l.most)
    × Consumes (g.R.Read.remaining l.initial.source.device) (g.R.Read.remaining l.source.device) l.bytes.items

abbrev pub decreases-loop-left : goal.decreases-loop-left
decreases-loop-left g l = l.left
