-- The uses of each name, as the code lends them.
use Rattle.std.specs.{Prelude.List, Prelude.map, Borrow.Bor}
use Rattle.link_maps.specs.Uses.{Use}

abbrev pub groups_of : List (Bor (List Use)) → List (List Use)
groups_of groups = map (λ g. g.now) groups
