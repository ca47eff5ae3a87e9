-- Names in a list, compared by their bytes.
use Rattle.std.specs.{Prelude.{ℕ, Bool, cond, List, [], ◌∷◌, ◌++◌, bytes_eq}, List.list_any}

abbrev pub is_among : List (List ℕ) → List ℕ → Bool
is_among names name = list_any (bytes_eq name) names

-- those that are not among the names seen, each once
abbrev pub new_names : List (List ℕ) → List (List ℕ) → List (List ℕ)
new_names seen [] = []
new_names seen (n ∷ ns) = cond (is_among seen n) (new_names (seen ++ n ∷ []) ns) (n ∷ new_names (seen ++ n ∷ []) ns)
