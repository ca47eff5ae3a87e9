use Rattle.std.proofs.Common.{drop}
use Rattle.v7_from_gnu.proofs.LookLemmas.{LooksOn}
use Rattle.v7_from_gnu.proofs.checks.look.Given as goal

-- what comes of the jobs that are left comes of all
abbrev pub invariant-loop-job : goal.invariant-loop-job
invariant-loop-job g l =
    LooksOn (g.O.FileSystem.history l.initial.file_system) (g.O.FileSystem.history l.file_system) l.found.items (drop l.job-index l.jobs) l.jobs
