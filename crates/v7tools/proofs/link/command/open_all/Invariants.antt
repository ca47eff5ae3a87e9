use Rattle.std.proofs.Common.{◌≡◌, ◌+◌, ◌≤◌, ◌++◌, map, length, vec_len, vec_capacity}
use Rattle.std.specs.List.{AllByRecursion}
use Rattle.host.specs.Events.{Extends, opens}
use Rattle.v7tools.specs.internal.Openings.{sources, IsWorking}
use Rattle.v7tools.proofs.link.command.open_all.Given as goal

-- the files so far were opened, and there is room for those that are left
abbrev pub invariant-loop-path : goal.invariant-loop-path
invariant-loop-path g l = record {
  room : vec_len l.inputs + length l.path-iterator.rest.items ≤ vec_capacity l.inputs;
  asked : Extends (g.O.FileSystem.history l.initial.file_system) (g.O.FileSystem.history l.file_system)
      (opens (sources g.O.Source.Read.remaining l.inputs.items));
  order : l.fn.files.items ≡ map (λ i. i.0) l.inputs.items ++ l.path-iterator.rest.items;
  working : AllByRecursion IsWorking l.inputs.items;
}
