-- The slots of the forced names, which are filled from the front.
use Rattle.std.specs.Prelude.{◌≡◌, ℕ, List, [], ◌++◌, take, replicate, length}
use Rattle.tool_options.specs.{ForcedNames.forced_of, ForcedNames.AreDifferent, declared.forced.Forced.TheInside.Inside}

-- so many slots: the names, and empty ones
abbrev pub filled : ℕ → List (List ℕ) → List (List ℕ)
filled n names = take n (names ++ replicate n [])

pub record IsForced (a : Inside) : Type 0 where
  pub counted : length (forced_of a) ≡ a.count
  pub from_front : filled 64 (forced_of a) ≡ a.slots
  pub different : AreDifferent (forced_of a)

abbrev pub slots_of : List (List ℕ) → Inside
slots_of names = record { slots = filled 64 names; count = length names }

pub slots_back : (a : Inside) → IsForced a →
    (let b : Inside = record { slots = filled 64 (forced_of a); count = length (forced_of a) } in b) ≡ a
slots_back a h = λ i. let b : Inside = record { slots = h.from_front i; count = h.counted i } in b
