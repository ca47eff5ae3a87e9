use Rattle.std.proofs.Common.{◌≡◌, drop, map}
use Rattle.link_maps.specs.Members.{member_of, no_places, places_after}
use Rattle.link_maps.proofs.limit_records.sums_of.Given as goal

abbrev pub invariant-loop-object : goal.invariant-loop-object
invariant-loop-object l =
    places_after l.sums (map member_of (drop l.object-index l.all)) ≡ places_after no_places (map member_of l.all)
