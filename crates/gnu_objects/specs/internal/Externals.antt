-- Externals of several files, and what a map has of their names.
use Rattle.std.specs.{Prelude.{◌≡◌, ℕ, List, map}, List.list_any, Option.is_some}
use Rattle.indexmap.specs.IndexMap.{IndexMap}
use Rattle.gnu_objects.specs.{declared.alike.Equals.Equals, declared.external.External.External, Staying.are_alike}
use Rattle.gnu_objects.specs.internal.AlikeNames.{found}

abbrev pub names_in : List External → List (List ℕ)
names_in externals = map (λ (e : External). e.name.now) externals

-- something is found for a name if and only if one of these is alike
abbrev pub HasNames : {S : Type 0} → List (List ℕ) → IndexMap (List ℕ) Equals S → Type 0
HasNames done names = (q : List ℕ) → is_some (found names q) ≡ list_any (are_alike q) done
