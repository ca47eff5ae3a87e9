-- Maps that have names by their first eight bytes: the last name that was put in, and the last one before it that differs from it.
use Rattle.std.specs.Prelude.{◌≡◌, ℕ, Bool, ◌&&◌, nat_eq, if◌then◌else◌, List, take, Option, Some, None}
use Rattle.std.specs.Cmp.Lexicographic.{pointwise}
use Rattle.indexmap.specs.IndexMap.{IndexMap, get}
use Rattle.gnu_objects.specs.{declared.alike.Equals.Equals, declared.symbols.GnuSymbol.GnuSymbol, GnuForm.name_at}
use Rattle.gnu_objects.specs.Staying.{are_alike, counts, alike_with}

-- the last of these that differs from a name
abbrev pub other_than : List ℕ → Option Equals → Option ℕ
other_than name None = None
other_than name (Some e) = if pointwise nat_eq e.name.items name then e.other else Some e.number

module _ {S : Type 0} where
  -- the number that is found for a name
  abbrev pub found : IndexMap (List ℕ) Equals S → List ℕ → Option ℕ
  found names name = other_than name (get (pointwise nat_eq) names (take 8 name))

  -- a name is found before those that were there
  abbrev pub PutsName : List ℕ → ℕ → IndexMap (List ℕ) Equals S → IndexMap (List ℕ) Equals S → Type 0
  PutsName name number old new = (q : List ℕ) → found new q ≡ (if are_alike q name then Some number else found old q)

  -- so is that of a symbol, if it counts
  abbrev pub PutsSymbol : List ℕ → Bool → ℕ → GnuSymbol → IndexMap (List ℕ) Equals S → IndexMap (List ℕ) Equals S → Type 0
  PutsSymbol strings externals n s old new =
      (q : List ℕ) → found new q ≡ (if counts strings externals s && are_alike q (name_at strings s.place) then Some n else found old q)

  -- the first of these symbols, from number n on, that is alike with a name is found
  abbrev pub FindsAlike : List ℕ → Bool → ℕ → List GnuSymbol → IndexMap (List ℕ) Equals S → Type 0
  FindsAlike strings externals n symbols names = (q : List ℕ) → found names q ≡ alike_with strings externals q n symbols
