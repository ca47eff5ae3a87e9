use Rattle.std.proofs.Common.{◌≡◌, ◌++◌, drop, map}
use Rattle.link_maps.specs.Uses.{forced_use}
use Rattle.link_maps.proofs.uses.put_forced.Given as goal

abbrev pub invariant-loop-name : goal.invariant-loop-name
invariant-loop-name l = l.uses.items ++ map forced_use (drop l.name-index l.names) ≡ l.initial.uses.items ++ map forced_use l.names
