use Rattle.std.proofs.Common.{List, [], Result}
use Rattle.host.specs.{Events.History, declared.answer.Fault.Fault}
use Rattle.v7_from_gnu.specs.{Jobs.Source, Readings.IsReading}
use Rattle.v7_from_gnu.proofs.reading.read_all.Given as goal

-- what comes of the files that are left comes of all
abbrev pub invariant-loop-job : goal.invariant-loop-job
invariant-loop-job g l =
    (new : History) → (result : Result (List Source) Fault) →
    IsReading (g.O.FileSystem.history l.file_system) new l.sources.items l.job-iterator.rest.items result
    → IsReading (g.O.FileSystem.history l.initial.file_system) new [] l.fn.jobs.items result
