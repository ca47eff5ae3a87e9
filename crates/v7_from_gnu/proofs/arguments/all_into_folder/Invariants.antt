use Rattle.std.proofs.Common.{◌≡◌, ◌++◌, drop, map, string_bytes}
use Rattle.v7_from_gnu.specs.Calls.{into_folder}
use Rattle.v7_from_gnu.proofs.arguments.all_into_folder.Given as goal

-- the paths so far have their jobs
abbrev pub invariant-loop-path : goal.invariant-loop-path
invariant-loop-path l =
    map (into_folder l.fn.folder) (map string_bytes l.paths)
    ≡ l.jobs.items ++ map (into_folder l.fn.folder) (map string_bytes (drop l.path-index l.paths))
