-- What the text of an object shows, in a table of the crate `origins`.
use Rattle.std.specs.Prelude.{ℕ, ◌+◌, cond, bytes_eq, List, [], ◌∷◌, map, Option}
use Rattle.aout_core.specs.{declared.symbol.Symbol.Symbol, Contents.Contents}
use Rattle.origins.specs.Telling.{Agrees, AreSlotsOfWords, IsTextAt}

-- the number of the first symbol of a name
abbrev pub first_number : List Symbol → List ℕ → ℕ
first_number [] name = 0
first_number (s ∷ ss) name = cond (bytes_eq s.name name) 0 (1 + first_number ss name)

-- that of each symbol's name
abbrev pub names_in : Contents → List ℕ
names_in object = map (λ (s : Symbol). first_number object.symbols s.name) object.symbols

-- the table says of the values that the object's text is at this address of the program's, and nothing else
pub record HasText (program object : Contents) (text : ℕ) (table : List (Option ℕ)) : Type 0 where
  pub words : AreSlotsOfWords table
  pub sound : (s : ℕ → ℕ) → Agrees table s → IsTextAt program object (names_in object) text s
  pub all : (s : ℕ → ℕ) → IsTextAt program object (names_in object) text s → Agrees table s
