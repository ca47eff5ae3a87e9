use Rattle.std.proofs.Common.{◌≡◌, ◌++◌, drop}
use Rattle.link_maps.specs.{Records.records_from, Groups.groups_of}
use Rattle.link_maps.proofs.records.use_records.Given as goal

-- the records so far, and those of the names that are left
abbrev pub invariant-loop-number : goal.invariant-loop-number
invariant-loop-number l =
    l.records.items ++ records_from l.places l.number (groups_of (drop l.number l.groups)) ≡ records_from l.places 0 (groups_of l.groups)
