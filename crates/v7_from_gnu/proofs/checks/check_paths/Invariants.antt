use Rattle.std.proofs.Common.{◌≡◌, [], take, drop}
use Rattle.v7_from_gnu.specs.Checks.{path_from}
use Rattle.v7_from_gnu.proofs.checks.check_paths.Given as goal

-- nothing is wrong with the paths so far
abbrev pub invariant-loop-index : goal.invariant-loop-index
invariant-loop-index l = path_from [] l.jobs ≡ path_from (take l.index l.jobs) (drop l.index l.jobs)
