use Rattle.std.proofs.Common.{◌≡◌, ◌+◌, ◌≤◌, ◌++◌, map, length, vec_len, vec_capacity}
use Rattle.v7tools.specs.FileRuns.{Reads}
use Rattle.v7tools.proofs.files.commands.load_all.Given as goal

-- the files so far were opened and read, and there is room for those that are left
abbrev pub invariant-loop-path : goal.invariant-loop-path
invariant-loop-path g l = record {
  room : vec_len l.loaded + length l.path-iterator.rest.items ≤ vec_capacity l.loaded;
  read : Reads (g.O.FileSystem.history l.initial.file_system) (g.O.FileSystem.history l.file_system) l.loaded.items;
  order : l.fn.files.items ≡ map (λ f. f.0) l.loaded.items ++ l.path-iterator.rest.items;
}
