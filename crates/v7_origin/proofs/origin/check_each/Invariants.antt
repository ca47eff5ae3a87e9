use Rattle.std.proofs.Common.{drop, map}
use Rattle.host.specs.Nodes.{ChecksOutput}
use Rattle.v7_origin.specs.Whole.{Source}
use Rattle.v7_origin.proofs.ReadingLemmas.{GoesOn}
use Rattle.v7_origin.proofs.origin.check_each.Given as goal

-- what comes of the paths that are left comes of all
abbrev pub invariant-loop-source : goal.invariant-loop-source
invariant-loop-source g l =
    GoesOn (λ path _. ChecksOutput path l.out) (map (λ (s : Source). s.path) l.sources) tt (g.O.FileSystem.history l.initial.file_system)
    (g.O.FileSystem.history l.file_system) tt (map (λ (s : Source). s.path) (drop l.source-index l.sources))
