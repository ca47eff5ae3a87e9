-- Lists that are written item by item.
use Rattle.std.specs.Prelude.{ℕ, ◌+◌, List, [], ◌∷◌, ◌++◌, Option, Some, None, slice_get}
use Rattle.link_session.specs.{declared.state.State.State, Image.Named, Undo.Kept, Undo.image_of}

-- each item by its index, from this one on
abbrev pub each_from : {A B : Type 0} → (ℕ → A → List B) → ℕ → List A → List B
each_from encoded i [] = []
each_from encoded i (x ∷ xs) = encoded i x ++ each_from encoded (i + 1) xs

abbrev pub each : {A B : Type 0} → (ℕ → A → List B) → List A → List B
each encoded xs = each_from encoded 0 xs

-- the name of the external at a place; none after the last one
abbrev pub name_in : Option (List ℕ × State) → List ℕ
name_in None = []
name_in (Some e) = e.0

abbrev pub name_at : Named → ℕ → List ℕ
name_at es i = name_in (slice_get es i)

-- the externals of a session
abbrev pub named : Kept → Named
named s = (image_of s).externals
