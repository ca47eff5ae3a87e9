use Rattle.std.proofs.Common.{drop, map}
use Rattle.std.specs.Prelude.{string_bytes}
use Rattle.v7_origin.specs.Runs.{Takes}
use Rattle.v7_origin.proofs.ReadingLemmas.{GoesOn}
use Rattle.v7_origin.proofs.reading.read_each.Given as goal

-- what comes of the paths that are left comes of all
abbrev pub invariant-loop-path : goal.invariant-loop-path
invariant-loop-path g l =
    GoesOn (Takes l.«from») (map string_bytes l.paths) l.initial.sources.items (g.O.FileSystem.history l.initial.file_system) (g.O.FileSystem.history l.file_system)
    l.sources.items (map string_bytes (drop l.path-index l.paths))
