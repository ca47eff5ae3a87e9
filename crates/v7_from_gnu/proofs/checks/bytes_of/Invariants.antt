use Rattle.std.proofs.Common.{◌≡◌, ◌++◌, drop, map}
use Rattle.v7_from_gnu.specs.Checks.{bytes_of}
use Rattle.v7_from_gnu.proofs.checks.bytes_of.Given as goal

-- the bytes so far, and those of the files that are left
abbrev pub invariant-loop-target : goal.invariant-loop-target
invariant-loop-target l = map (λ b. b.now) l.all.items ++ bytes_of (drop l.target-index l.targets) ≡ bytes_of l.targets
