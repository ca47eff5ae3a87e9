-- The names of the ends of text, data and bss. (end(3), ld(1))
--
-- A program that refers to one of them and does not define it gets the address from the linker.
use Rattle.std.specs.Prelude.{ℕ, List, [], ◌∷◌, codes}

abbrev pub etext : List ℕ
etext = codes "_etext"

abbrev pub edata : List ℕ
edata = codes "_edata"

abbrev pub end_name : List ℕ
end_name = codes "_end"

abbrev pub reserved_names : List (List ℕ)
reserved_names = etext ∷ edata ∷ end_name ∷ []
