use Rattle.std.proofs.Common.{◌≡◌, ◌++◌, drop, ◌∷◌, []}
use Rattle.libv7.specs.{FindingPlaces.{place_at, places_with}, Items.each_from, internal.Numbered.found}
use Rattle.libv7.proofs.places.places_with.Given as goal

-- the places so far, and those of the names that are left
abbrev pub invariant-loop-place : goal.invariant-loop-place
invariant-loop-place l =
    places_with (found l.index) l.numbers l.names
    ≡ l.places.items ++ each_from (λ i r. place_at (found l.index) l.numbers i r.1 ∷ []) l.place (drop l.place l.names)
