use Rattle.std.proofs.Common.{◌≡◌, ◌<◌, ◌+◌, ◌-◌, drop, length}
use Rattle.link_maps.specs.Records.{uses_of_name}
use Rattle.link_maps.proofs.groups.uses_of_name.Given as goal

abbrev pub invariant-loop-last : goal.invariant-loop-last
invariant-loop-last l = (l.last < length l.uses) × (l.last + uses_of_name (drop l.last l.uses) ≡ uses_of_name l.uses)

abbrev pub decreases-loop-last : goal.decreases-loop-last
decreases-loop-last l = length l.uses - l.last
