-- What a session takes of the objects of a link, and why it refuses the first that it does not take.
--
-- It takes them in order, each after those that it keeps. After the first that passes a limit it takes none.
use Rattle.std.specs.Prelude.{ℕ, List, [], ◌∷◌, ◌++◌, Option, Some, None}
use Rattle.aout_core.specs.WellFormed.{first_of}
use Rattle.link_session.specs.{declared.entry.AddFault.AddFault, Labelled.Labelled, Labelled.objects, Limits.refusal}
use Rattle.link_maps.specs.{declared.members.Objects.Objects, declared.members.Refused.Refused, Members.cause_of, Members.left_of}

-- the objects that a session keeps, the limit that the next one passes, and that one with those after it
pub record Split : Type 0 where
  pub kept : List Labelled
  pub cause : Option AddFault
  pub left : List Labelled

abbrev pub not_split : Split
not_split = record { kept = []; cause = None; left = [] }

abbrev pub split_by : Split → Labelled → Option AddFault → Split
split_by s x None = record { kept = s.kept ++ x ∷ []; cause = None; left = [] }
split_by s x (Some limit) = record { kept = s.kept; cause = Some limit; left = s.left ++ x ∷ [] }

-- with one more object; after one that is refused all are left
abbrev pub with_object : List (List ℕ) → Split → Labelled → Split
with_object forced s x = split_by s x (first_of s.cause (refusal forced (objects s.kept) x.object))

abbrev pub split_from : List (List ℕ) → Split → List Labelled → Split
split_from forced s [] = s
split_from forced s (x ∷ xs) = split_from forced (with_object forced s x) xs

-- these objects, as a session with these forced names takes them
abbrev pub split : List (List ℕ) → List Labelled → Split
split forced xs = split_from forced not_split xs

-- those that a session kept, and those that it refused
abbrev pub split_with : List Labelled → Option Refused → Split
split_with kept refused = record { kept = kept; cause = cause_of refused; left = left_of refused }

abbrev pub split_of : Objects → Split
split_of o = split_with o.session.entries o.refused
