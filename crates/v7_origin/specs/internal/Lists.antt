-- What private functions return.
use Rattle.std.specs.Prelude.{◌≡◌, [], ◌∷◌, ◌++◌, Result, Ok, Err}
use Rattle.link_session.specs.{Labelled.Labelled, Undo.Kept}
use Rattle.v7_origin.specs.Whole.{IsOf, Source}

-- what is found, if there is no fault
abbrev pub after : {A B E : Type 0} → B → Result A E → Result B E
after found (Ok x) = Ok found
after found (Err fault) = Err fault

-- the object of a file was added to a session
abbrev pub IsAdded : Source → Kept → Kept → Type 0
IsAdded source old new =
    (new.forced ≡ old.forced) × ((x : Labelled) × IsOf source x × (new.entries ≡ old.entries ++ x ∷ []))
