use Rattle.std.proofs.Common.{length, ◌-◌, ◌≡◌, ◌≤◌, false, take}
use Rattle.std.specs.Io.KnownBytes.{Consumes}
use Rattle.aout_core.proofs.wire.Wire.fill.Given as goal

abbrev pub invariant-loop-filled : goal.invariant-loop-filled
invariant-loop-filled g l =
    (l.self.has_failed ≡ false) × (l.filled ≤ length l.buf)
    × Consumes (g.R.Read.remaining l.initial.self.device) (g.R.Read.remaining l.self.device) (take l.filled l.buf)

abbrev pub decreases-loop-filled : goal.decreases-loop-filled
decreases-loop-filled g l = length l.initial.buf - l.filled
