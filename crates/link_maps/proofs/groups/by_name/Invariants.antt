use Rattle.std.proofs.Common.{◌≡◌, ◌++◌, length}
use Rattle.link_maps.specs.{Records.by_name, Groups.groups_of}
use Rattle.link_maps.proofs.groups.by_name.Given as goal

-- the names so far, and those that are left
abbrev pub invariant-loop-rest : goal.invariant-loop-rest
invariant-loop-rest l = groups_of l.groups.items ++ by_name l.rest ≡ by_name l.uses

abbrev pub decreases-loop-rest : goal.decreases-loop-rest
decreases-loop-rest l = length l.rest
