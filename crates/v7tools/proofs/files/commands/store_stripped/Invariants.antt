use Rattle.std.proofs.Common.{◌≡◌, ◌++◌, List}
use Rattle.host.specs.Events.{Extends}
use Rattle.v7tools.specs.FileRuns.{Loaded}
use Rattle.v7tools.proofs.FileRunLemmas.{strips_all}
use Rattle.v7tools.proofs.files.commands.store_stripped.Given as goal

-- the files so far are stored
abbrev pub invariant-loop-path : goal.invariant-loop-path
invariant-loop-path g l =
    (done : List Loaded) × (l.fn.loaded.items ≡ done ++ l.path-iterator.rest.items)
    × Extends (g.O.FileSystem.history l.initial.file_system) (g.O.FileSystem.history l.file_system) (strips_all done)
