-- The new names of an object, gathered one symbol after the other.
use Rattle.std.specs.Prelude.{ℕ, ◌&&◌, not, cond, List, [], ◌∷◌, ◌++◌}
use Rattle.aout_core.specs.{declared.symbol.Symbol.Symbol, WellFormed.is_external}
use Rattle.tool_options.specs.NameLists.{is_among}

-- the names, with one more if it is not among them
abbrev pub with_entered : List (List ℕ) → List ℕ → List (List ℕ)
with_entered names n = names ++ cond (is_among names n) [] (n ∷ [])

-- the new names so far, with that of one more symbol if it adds one
abbrev pub with_new : List (List ℕ) → List (List ℕ) → Symbol → List (List ℕ)
with_new seen fresh s = cond (is_external s && not (is_among seen s.name)) (with_entered fresh s.name) fresh

-- the same with those of several symbols
abbrev pub with_all_new : List (List ℕ) → List (List ℕ) → List Symbol → List (List ℕ)
with_all_new seen fresh [] = fresh
with_all_new seen fresh (s ∷ ss) = with_all_new seen (with_new seen fresh s) ss
