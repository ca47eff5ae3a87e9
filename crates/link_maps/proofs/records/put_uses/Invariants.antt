use Rattle.std.proofs.Common.{◌≡◌, ◌++◌, drop}
use Rattle.std.specs.List.{flat_map}
use Rattle.link_maps.specs.Records.{use_records}
use Rattle.link_maps.proofs.records.put_uses.Given as goal

abbrev pub invariant-loop-used : goal.invariant-loop-used
invariant-loop-used l =
    l.records.items ++ flat_map (use_records l.places l.number) (drop l.used-index l.uses)
    ≡ l.initial.records.items ++ flat_map (use_records l.places l.number) l.uses
