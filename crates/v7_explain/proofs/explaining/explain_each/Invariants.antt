use Rattle.std.proofs.Common.{drop, map}
use Rattle.v7_explain.specs.Runs.{ExplainsAt}
use Rattle.v7_explain.proofs.EachLemmas.{GoesOn}
use Rattle.v7_explain.proofs.explaining.explain_each.Given as goal

abbrev pub invariant-loop-found : goal.invariant-loop-found
invariant-loop-found g l =
    GoesOn (ExplainsAt l.fn.mode) (g.O.FileSystem.history l.initial.file_system) (g.O.FileSystem.history l.file_system) l.said
    (map g.P.Explainable.path (drop l.found-index l.all)) (map g.P.Explainable.path l.all)
