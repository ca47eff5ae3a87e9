-- Which objects the names of a report are of.
--
-- Objects are numbered from 0, and the largest number of 64 bits means none. A name is of the first object that defines it, or
-- else of the first that has a symbol of it. A name is multiply defined once for each definition that differs from the first, and each
-- has the object of this further definition too.
use Rattle.std.specs.Prelude.{ℕ, zero, suc, ◌+◌, ◌-◌, Bool, true, false, not, ◌&&◌, ◌||◌, eqb, if◌then◌else◌, bytes_eq, List, [], ◌∷◌, ◌++◌}
use Rattle.std.specs.{Prelude.{length, replicate, slice_get, take, Option, Some, None}, List.list_any}
use Rattle.aout_core.specs.{WellFormed.{first_of, is_external, masked_type}, declared.symbol.Symbol.Symbol, Contents.Contents}
use Rattle.link_session.specs.{Labelled.number_or_none, Mentions.mentions, States.multiple_names}
use Rattle.link_out.specs.Results.{ReportNames}
use Rattle.libv7.specs.{Items.each, LinkAnswers.reported_names, declared.places.FindingPlace.FindingPlace}

-- ---- the first object of a name

-- an external symbol, and a definition if only these are looked for
abbrev pub is_shown : Bool → Symbol → Bool
is_shown definitions s = is_external s && (not definitions || not (eqb (masked_type s) 0))

abbrev pub shows : Bool → List ℕ → Symbol → Bool
shows definitions name s = is_shown definitions s && bytes_eq s.name name

-- the first of these objects, of which the first has this number, that shows the name
abbrev pub first_from : Bool → List ℕ → ℕ → List Contents → Option ℕ
first_from definitions name number [] = None
first_from definitions name number (o ∷ os) =
    if list_any (shows definitions name) o.symbols then Some number else first_from definitions name (number + 1) os

-- the number of the first object that defines the name, or else of the first that has a symbol of it
abbrev pub first_number : List Contents → List ℕ → ℕ
first_number os name = number_or_none (first_of (first_from true name 0 os) (first_from false name 0 os))

-- ---- the objects of further definitions

-- how many definitions in these objects differ from the first of their name
abbrev pub differing : List (List ℕ) → List Contents → ℕ
differing forced os = length (multiple_names (mentions forced os))

-- the object of each of them, in the first n objects: as many as there are more with the object than without it
abbrev pub further_among : List (List ℕ) → List Contents → ℕ → List ℕ
further_among forced os zero = []
further_among forced os (suc n) =
    further_among forced os n ++ replicate (differing forced (take (suc n) os) - differing forced (take n os)) n

abbrev pub further_objects : List (List ℕ) → List Contents → List ℕ
further_objects forced os = further_among forced os (length os)

-- ---- the names of a report, in the order of its lines

-- by the number of the object that a name is said to be of; the first names have further objects, with these numbers
module _ (first : List ℕ → ℕ) (numbers : List ℕ) where
  abbrev pub place_at : ℕ → List ℕ → FindingPlace
  place_at i name = record { first = first name; further = number_or_none (slice_get numbers i) }

  abbrev pub places_with : List (ℕ × List ℕ) → List FindingPlace
  places_with names = each (λ i r. place_at i r.1 ∷ []) names

abbrev pub finding_places : List (List ℕ) → List Contents → ReportNames → List FindingPlace
finding_places forced os f = places_with (first_number os) (further_objects forced os) (reported_names f)
