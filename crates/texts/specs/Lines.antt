-- The text of a list of lines, and the lines of a text.
use Rattle.std.specs.{Prelude.ℕ, Prelude.eqb, Prelude.if◌then◌else◌, Prelude.List, Prelude.[], Prelude.◌∷◌, Prelude.◌++◌, List.flat_map}

-- each line with its newline
abbrev pub text_of : List (List ℕ) → List ℕ
text_of ls = flat_map (λ (l : List ℕ). l ++ 10 ∷ []) ls

-- a byte put before the first line
abbrev pub on_first : ℕ → List (List ℕ) → List (List ℕ)
on_first b [] = (b ∷ []) ∷ []
on_first b (l ∷ ls) = (b ∷ l) ∷ ls

-- the lines, each ended by a newline, but the last one, which may lack it and is not empty
abbrev pub lines_in : List ℕ → List (List ℕ)
lines_in [] = []
lines_in (b ∷ bs) = if eqb b 10 then [] ∷ lines_in bs else on_first b (lines_in bs)
