-- Numbers of objects by names, put in object after object and symbol after symbol.
use Rattle.std.specs.{Prelude.{◌≡◌, ℕ, Bool, if◌then◌else◌, bytes_eq, List, Some}, List.list_any}
use Rattle.indexmap.specs.IndexMap.{IndexMap, get}
use Rattle.aout_core.specs.{declared.symbol.Symbol.Symbol, Contents.Contents, WellFormed.first_of}
use Rattle.link_session.specs.Labelled.{number_or_none}
use Rattle.libv7.specs.{FindingPlaces.{first_from, first_number, shows}, declared.places.Index.Index}

module _ {S : Type 0} where
  -- the number of an object for the name of a symbol, if that is looked for
  abbrev pub PutsSymbol : Bool → ℕ → Symbol → IndexMap (List ℕ) ℕ S → IndexMap (List ℕ) ℕ S → Type 0
  PutsSymbol definitions number s old new =
      (name : List ℕ) → get bytes_eq new name ≡ (if shows definitions name s then Some number else get bytes_eq old name)

  -- the same for these symbols
  abbrev pub PutsObject : Bool → ℕ → List Symbol → IndexMap (List ℕ) ℕ S → IndexMap (List ℕ) ℕ S → Type 0
  PutsObject definitions number ss old new =
      (name : List ℕ) → get bytes_eq new name ≡ (if list_any (shows definitions name) ss then Some number else get bytes_eq old name)

  -- what is in is put in by these objects, of which the first has this number
  abbrev pub AreNumbers : Bool → ℕ → List Contents → IndexMap (List ℕ) ℕ S → Type 0
  AreNumbers definitions number os numbers = (name : List ℕ) → get bytes_eq numbers name ≡ first_from definitions name number os

abbrev pub found : Index → List ℕ → ℕ
found index name = number_or_none (first_of (get bytes_eq index.definers name) (get bytes_eq index.users name))

abbrev pub IsIndex : Index → List Contents → Type 0
IsIndex index os = (name : List ℕ) → found index name ≡ first_number os name
