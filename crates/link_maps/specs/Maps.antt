-- The map of the link of some objects.
use Rattle.std.specs.Prelude.{◌≡◌, not, is_some, ℕ, List, map, IfSome}
use Rattle.link_session.specs.Labelled.{objects}
use Rattle.tool_options.specs.Choices.{Choices}
use Rattle.link_maps.specs.Members.{all_of, first_places, member_of, places_from}
use Rattle.link_maps.specs.Records.{by_name, object_records, record_of, records_from}
use Rattle.link_maps.specs.{declared.map.LinkMap.LinkMap, declared.map_records.MapRecords.MapRecords, declared.members.Objects.Objects}
use Rattle.link_maps.specs.{MapLimits.map_limits, Rows.IsOutcome, Rows.bases_of, Uses.uses_in_order}

-- the places of these objects in a map, and the link, if there is one
pub record IsPlaced (all : Objects) (o : Choices) (m : LinkMap) : Type 0 where
  pub places : m.places.items ≡ places_from (first_places (bases_of m.outcome)) (map member_of (all_of all))
  pub made : is_some m.outcome ≡ not (is_some all.refused)
  pub outcome : IfSome m.outcome (λ x. IsOutcome x all.session o)

-- a map of these objects, what `map_of` gives
pub record IsMapOf (all : Objects) (forced : List (List ℕ)) (o : Choices) (m : LinkMap) : Type 0 where
  pub placed : IsPlaced all o m
  pub uses : m.uses.items ≡ uses_in_order forced (objects (all_of all))

-- the records of a map
pub record AreRecords (all : Objects) (o : Choices) (m : LinkMap) (r : MapRecords) : Type 0 where
  pub objects : r.objects.items ≡ object_records (all_of all) m.places.items
  pub names : r.names.items ≡ map (record_of m.outcome all.session) (by_name m.uses.items)
  pub uses : r.uses.items ≡ records_from m.places.items 0 (by_name m.uses.items)
  pub limits : r.limits.items ≡ map_limits o.relocatable all.session (map member_of (all_of all)) m.outcome
