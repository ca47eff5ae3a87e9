use Rattle.std.proofs.Common.{◌≡◌, ◌++◌, drop, map}
use Rattle.link_maps.specs.Members.{first_places, member_of, places_from}
use Rattle.link_maps.proofs.places.places_of.Given as goal

abbrev pub invariant-loop-object : goal.invariant-loop-object
invariant-loop-object l =
    l.places.items ++ places_from l.at (map member_of (drop l.object-index l.all))
    ≡ places_from (first_places l.fn.bases) (map member_of l.all)
