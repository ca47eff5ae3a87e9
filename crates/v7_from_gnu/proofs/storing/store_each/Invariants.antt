use Rattle.std.proofs.Common.{Result, drop}
use Rattle.host.specs.{Answer.Answer, Events.History, declared.answer.Fault.Fault}
use Rattle.v7_from_gnu.specs.Runs.{IsStoring}
use Rattle.v7_from_gnu.proofs.storing.store_each.Given as goal

-- what comes of the objects that are left comes of all
abbrev pub invariant-loop-target : goal.invariant-loop-target
invariant-loop-target g l =
    (new : History) → (result : Result Answer Fault) →
    IsStoring (drop l.target-index l.targets) (g.O.FileSystem.history l.file_system) new result
    → IsStoring l.targets (g.O.FileSystem.history l.initial.file_system) new result
