-- The limits of a link, and how much of each its objects use.
use Rattle.std.specs.Prelude.{ℕ, Bool, if◌then◌else◌, List, [], ◌∷◌, ◌++◌, length, Option, Some, None, Result, Ok, Err}
use Rattle.link_session.specs.Undo.{Kept, image_of}
use Rattle.link_out.specs.{declared.linked.Linked.Linked, declared.linked.LinkFault.LinkFault}
use Rattle.link_maps.specs.{declared.limit_records.LimitRecord.LimitRecord, declared.outcome.Outcome.Outcome, Members.Member}
use Rattle.link_maps.specs.{Members.no_places, Members.places_after, Rows.largest_number, declared.places.Places.Places}

abbrev pub limit : ℕ → ℕ → ℕ → LimitRecord
limit kind used most = record { used = used; most = most; kind = kind }

-- 1 to 3: text, data and bss of all objects, even if they are over the limits
abbrev pub size_limits : Places → List LimitRecord
size_limits sums = limit 1 sums.text 65534 ∷ limit 2 sums.«data» 65534 ∷ limit 3 sums.bss 65534 ∷ []

-- 5: the symbols of a file that is made; 6: with -r, the largest symbol number of its relocation words
abbrev pub file_limits : Bool → Result Linked LinkFault → List LimitRecord
file_limits relocatable (Err fault) = []
file_limits relocatable (Ok l) =
    limit 5 (length l.file.symbols) 5461 ∷ (if relocatable then limit 6 (largest_number l.file) 4095 ∷ [] else [])

-- 4: the end of bss; 7: the external names
abbrev pub link_limits : Bool → Kept → Option Outcome → List LimitRecord
link_limits relocatable k None = []
link_limits relocatable k (Some o) =
    (limit 4 o.bases.bss_end 65535 ∷ file_limits relocatable o.linked) ++ limit 7 (length (image_of k).externals) 65535 ∷ []

abbrev pub map_limits : Bool → Kept → List Member → Option Outcome → List LimitRecord
map_limits relocatable k ms outcome = size_limits (places_after no_places ms) ++ link_limits relocatable k outcome
