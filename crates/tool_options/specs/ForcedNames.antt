-- The forced names: a list of at most 64 different names. (ld(1), the option `-u`; the limit: own choice)
--
-- A forced name is mentioned before all objects, as if an object referred to it. The code keeps the names in an array of 64 slots,
-- of which the first `count` are filled; contracts see the list of these.
use Rattle.std.specs.Prelude.{◌≡◌, ℕ, ◌||◌, Bool, cond, nat_lt, List, [], ◌∷◌, ◌++◌, take, length}
use Rattle.tool_options.specs.{NameLists.new_names, NameLists.is_among, declared.forced.Forced.TheInside.Inside}

abbrev pub forced_of : Inside → List (List ℕ)
forced_of a = take a.count a.slots

-- no name is there twice
abbrev pub AreDifferent : List (List ℕ) → Type 0
AreDifferent names = new_names [] names ≡ names

-- the name is there, or there are fewer than 64 names
abbrev pub takes : List (List ℕ) → List ℕ → Bool
takes names name = is_among names name || nat_lt (length names) 64

-- the name appended, if it is not there and there are fewer than 64
abbrev pub with_name : List (List ℕ) → List ℕ → List (List ℕ)
with_name names name = cond (is_among names name) names (cond (nat_lt (length names) 64) (names ++ name ∷ []) names)
