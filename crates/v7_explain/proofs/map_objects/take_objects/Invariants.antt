use Rattle.std.proofs.Common.{drop, map, string_bytes}
use Rattle.v7_explain.specs.Runs.{Takes}
use Rattle.v7_explain.proofs.EachLemmas.{GoesOn}
use Rattle.v7_explain.proofs.map_objects.take_objects.Given as goal

abbrev pub invariant-loop-path : goal.invariant-loop-path
invariant-loop-path g l =
    GoesOn Takes (g.O.FileSystem.history l.initial.file_system) (g.O.FileSystem.history l.file_system) l.said (map string_bytes (drop l.path-index l.paths))
    (map string_bytes l.paths)
