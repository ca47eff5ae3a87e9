use Rattle.std.proofs.Common.{◌≡◌, ◌++◌, drop, map}
use Rattle.link_maps.specs.{Records.record_of, Groups.groups_of}
use Rattle.link_maps.proofs.name_records.name_records.Given as goal

-- the records so far, and those of the names that are left
abbrev pub invariant-loop-uses : goal.invariant-loop-uses
invariant-loop-uses l =
    l.records.items ++ map (record_of l.map.outcome l.session) (groups_of (drop l.uses-index l.groups))
    ≡ map (record_of l.map.outcome l.session) (groups_of l.groups)
