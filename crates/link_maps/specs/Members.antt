-- The objects of a link, and the addresses of their segments. (ld(1))
--
-- A session takes the objects in order, up to the first that passes a limit. That one and those after it are left, but the
-- map shows them too.
use Rattle.std.specs.Prelude.{ℕ, ◌+◌, ◌-◌, ◌^◌, min, List, [], ◌∷◌, ◌++◌, length, Option, Some, None}
use Rattle.aout_core.specs.{declared.header.Header.Header, declared.part.Part.Part, declared.part.Part.TheVariants.{Text, Data}}
use Rattle.link_session.specs.{declared.entry.AddFault.AddFault, Labelled.Labelled}
use Rattle.link_out.specs.Layouts.{Bases}
use Rattle.link_maps.specs.{declared.members.Refused.Refused, declared.members.Objects.Objects, declared.places.Places.Places}

abbrev pub left_of : Option Refused → List Labelled
left_of None = []
left_of (Some r) = r.left.items

abbrev pub cause_of : Option Refused → Option AddFault
cause_of None = None
cause_of (Some r) = Some r.cause

-- all objects, those that the session took before those that are left
abbrev pub all_of : Objects → List Labelled
all_of o = o.session.entries ++ left_of o.refused

-- the label of an object, its header, and how many symbols it has
pub record Member : Type 0 where
  pub label : List ℕ
  pub header : Header
  pub symbols : ℕ

abbrev pub member_of : Labelled → Member
member_of e = record { label = e.label; header = e.object.header; symbols = length e.object.symbols }

-- a sum, or the largest number of 64 bits
abbrev pub capped : ℕ → ℕ → ℕ
capped a b = min (a + b) (2 ^ 64 - 1)

-- the addresses of the segments of the first object; if there is no link, they are counted from 0 in each segment
abbrev pub no_places : Places
no_places = record { text = 0; «data» = 0; bss = 0 }

abbrev pub first_places : Option Bases → Places
first_places None = no_places
first_places (Some b) = record { text = 0; «data» = b.data_start; bss = b.bss_start }

-- those of the object after this one
abbrev pub next_places : Places → Header → Places
next_places at h = record { text = capped at.text h.text_size; «data» = capped at.data h.data_size; bss = capped at.bss h.bss_size }

abbrev pub places_from : Places → List Member → List Places
places_from at [] = []
places_from at (m ∷ ms) = at ∷ places_from (next_places at m.header) ms

-- those after the last of these objects
abbrev pub places_after : Places → List Member → Places
places_after at [] = at
places_after at (m ∷ ms) = places_after (next_places at m.header) ms

-- the address so many bytes after the start of a part
abbrev pub start_in : Places → Part → ℕ
start_in at Text = at.text
start_in at Data = at.data
