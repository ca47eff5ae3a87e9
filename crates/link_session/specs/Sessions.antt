-- What the calls of a session do to what it keeps.
--
-- A session keeps forced names, objects with labels, and a journal. `add` appends an object and its marks, `withdraw` takes the
-- last ones away. These records define that, and what the marks are.
use Rattle.std.specs.Prelude.{◌≡◌, ℕ, List, [], ◌∷◌, ◌++◌, Option, Some, None, unwrap_or, String, string_bytes}
use Rattle.std.specs.declared.alloc.Global.{Global}
use Rattle.aout_core.specs.{Contents.Contents, Contents.Fits, WellFormed.IsWellFormed, Refusals.refused}
use Rattle.link_session.specs.{declared.entry.AddFault.AddFault, declared.entry.AddFault.TheVariants.Memory, declared.mark.Mark.Mark}
use Rattle.link_session.specs.{Labelled.Labelled, Labelled.objects, Edits.last_of, Undo.AreMarksOf, Undo.Kept}

-- a file that fits its header and is well formed
pub record IsObject (o : Contents) : Type 0 where
  pub fits : Fits o
  pub well : IsWellFormed o

-- no objects
abbrev pub nothing_kept : List (List ℕ) → Kept
nothing_kept forced = record { forced = forced; entries = []; journal = [] }

abbrev pub labelled : String Global → Contents → Labelled
labelled label object = record { label = string_bytes label; object = object }

-- an object was appended, and the marks of its addition
pub record Adds (old new : Kept) (e : Labelled) : Type 0 where
  pub forced : new.forced ≡ old.forced
  pub entries : new.entries ≡ old.entries ++ e ∷ []
  pub marks : List Mark
  pub journal : new.journal ≡ old.journal ++ marks ∷ []
  pub are : AreMarksOf old.forced (objects old.entries) e.object marks

-- the last object was taken away, with its marks
pub record Withdraws (old new : Kept) (e : Labelled) : Type 0 where
  pub forced : new.forced ≡ old.forced
  pub entries : old.entries ≡ new.entries ++ e ∷ []
  pub marks : List Mark
  pub journal : old.journal ≡ new.journal ++ marks ∷ []

-- a limit is the cause if one is passed, and else that memory ran out
abbrev pub IsCause : Option AddFault → AddFault → Type 0
IsCause None cause = cause ≡ Memory refused
IsCause (Some limit) cause = cause ≡ limit

-- the marks of the object added last
abbrev pub newest : List (List Mark) → List Mark
newest journal = unwrap_or (last_of journal) []
