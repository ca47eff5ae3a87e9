-- The map of a link as lists of records that have no lists of their own.
--
-- Objects and names are numbered from 0, names in their order. The uses of a name are one after another, and after each the words
-- of its object that refer to the name.
use Rattle.std.specs.Prelude.{ℕ, suc, ◌+◌, Bool, not, ◌&&◌, eqb, is_some, if◌then◌else◌, Option, Some, None, List, [], ◌∷◌, ◌++◌, drop, map}
use Rattle.std.specs.{Prelude.{replicate, zip, bytes_eq, position, slice_get}, List.flat_map}
use Rattle.aout_core.specs.{Names.padded, declared.symbol.Symbol.Symbol, declared.part.Part.Part, declared.part.Part.TheVariants.Text}
use Rattle.aout_core.specs.{declared.part.Part.TheVariants.Data}
use Rattle.link_session.specs.{Labelled.Labelled, Labelled.number_or_none, Undo.Kept}
use Rattle.link_maps.specs.{Members.{Member, capped, member_of, no_places, start_in}, Uses.{Use, is_common, is_definition, name_of, stays_undefined}}
use Rattle.link_maps.specs.{declared.outcome.Outcome.Outcome, declared.places.Places.Places, declared.name_records.NameRecord.NameRecord}
use Rattle.link_maps.specs.{declared.records.ObjectRecord.ObjectRecord, declared.records.UseRecord.UseRecord}
use Rattle.instructions.specs.declared.reference.Reference.{Reference}
use Rattle.link_maps.specs.declared.references.ReferringWord.{ReferringWord}
use Rattle.link_maps.specs.Rows.{is_multiple_in, row_among, rows_in}

-- ---- objects

abbrev pub object_record : Member → Places → ObjectRecord
object_record m at = record {
  text = at.text;
  «data» = at.«data»;
  bss = at.bss;
  symbols = m.symbols;
  text_size = m.header.text_size;
  data_size = m.header.data_size;
  bss_size = m.header.bss_size;
}

abbrev pub object_records : List Labelled → List Places → List ObjectRecord
object_records xs ats = map (λ p. object_record (member_of p.0) p.1) (zip xs ats)

-- ---- the uses of each name

abbrev pub is_same_name : Use → Use → Bool
is_same_name u v = bytes_eq (name_of u) (name_of v)

-- a use before the lists of those of each name
abbrev pub with_use : Use → List (List Use) → List (List Use)
with_use u [] = (u ∷ []) ∷ []
with_use u ([] ∷ gs) = (u ∷ []) ∷ gs
with_use u ((v ∷ vs) ∷ gs) = if is_same_name u v then (u ∷ v ∷ vs) ∷ gs else (u ∷ []) ∷ (v ∷ vs) ∷ gs

-- the uses of each name, from uses in the order of their names
abbrev pub by_name : List Use → List (List Use)
by_name [] = []
by_name (u ∷ us) = with_use u (by_name us)

-- how many uses after the first one of a name are of that name too
abbrev pub more_of_name : Use → List Use → ℕ
more_of_name u [] = 0
more_of_name u (v ∷ vs) = if is_same_name u v then suc (more_of_name v vs) else 0

-- how many uses are of the name of the first one
abbrev pub uses_of_name : List Use → ℕ
uses_of_name [] = 0
uses_of_name (u ∷ us) = suc (more_of_name u us)

-- ---- names

abbrev pub object_of : Option Use → Option ℕ
object_of None = None
object_of (Some u) = u.object

abbrev pub use_at : List Use → Option ℕ → Option Use
use_at us None = None
use_at us (Some i) = slice_get us i

abbrev pub object_at : List Use → Option ℕ → ℕ
object_at us place = number_or_none (object_of (use_at us place))

-- the object of the first definition, and that of the next one
abbrev pub definer : List Use → ℕ
definer us = object_at us (position is_definition us)

abbrev pub after : List Use → Option ℕ → List Use
after us None = []
after us (Some i) = drop (i + 1) us

abbrev pub next_definer : List Use → ℕ
next_definer us = definer (after us (position is_definition us))

-- the first object with a symbol of the name that does not define it
abbrev pub is_user : Use → Bool
is_user u = is_some u.object && not (is_definition u)

abbrev pub first_user : List Use → ℕ
first_user us = object_at us (position is_user us)

-- the type word and the value of a name in the table of the link; 0 if it is not there
abbrev pub type_shown : Option Symbol → ℕ
type_shown None = 0
type_shown (Some s) = s.type_bits

abbrev pub value_shown : Option Symbol → ℕ
value_shown None = 0
value_shown (Some s) = s.value

abbrev pub bit : Bool → ℕ → ℕ
bit b n = if b then n else 0

-- 1 for a row of the link, with its value, 2 for a name that stays undefined, 4 for one that is multiply defined
abbrev pub name_state : Bool → Bool → List Use → ℕ
name_state is_placed is_multiple us = bit is_placed 1 + (bit (stays_undefined us) 2 + bit is_multiple 4)

abbrev pub name_record : List ℕ → Option Symbol → Bool → List Use → NameRecord
name_record name row is_multiple us = record {
  name = padded name;
  definer = definer us;
  next_definer = next_definer us;
  user = first_user us;
  state = name_state (is_some row) is_multiple us;
  type_bits = type_shown row;
  value = value_shown row;
}

abbrev pub name_in : Option Use → List ℕ
name_in None = []
name_in (Some u) = name_of u

-- the record of the name of some uses, in a link of what a session keeps
abbrev pub record_of : Option Outcome → Kept → List Use → NameRecord
record_of x k us =
    (let name = name_in (slice_get us 0) in name_record name (row_among (rows_in x) k name) (is_multiple_in x k name) us)

-- ---- uses

-- 1 for a definition, 2 for a common, 3 for another symbol, 4 for a forced name
abbrev pub use_kind : Use → ℕ
use_kind u = if is_some u.object then (if is_definition u then 1 else (if is_common u then 2 else 3)) else 4

abbrev pub no_label : List ℕ
no_label = replicate 8 0

-- a use of the name with this number; the offset is the value of the symbol
abbrev pub use_record : ℕ → Use → UseRecord
use_record number u = record {
  address = 0;
  object = number_or_none u.object;
  name = number;
  label = no_label;
  kind = use_kind u;
  offset = u.symbol.value;
  line = 0;
  beyond = 0;
  is_labelled = 0;
  inside = 0;
}

-- 5 for a word of text, 6 for a word of data; 7 and 8 if it leads so many bytes beyond the symbol
abbrev pub word_kind : Part → ℕ → ℕ
word_kind Text inside = if eqb inside 0 then 5 else 7
word_kind Data inside = if eqb inside 0 then 6 else 8

abbrev pub label_shown : Option Reference → List ℕ
label_shown None = no_label
label_shown (Some b) = padded b.name

abbrev pub beyond_label : Option Reference → ℕ
beyond_label None = 0
beyond_label (Some b) = b.offset

-- a word that refers to the name with this number, in an object whose segments begin there
abbrev pub word_record : Places → ℕ → ℕ → ReferringWord → UseRecord
word_record at object number w = record {
  address = capped (start_in at w.part) w.offset;
  object = object;
  name = number;
  label = label_shown w.before;
  kind = word_kind w.part w.inside;
  offset = w.offset;
  line = w.line;
  beyond = beyond_label w.before;
  is_labelled = bit (is_some w.before) 1;
  inside = w.inside;
}

abbrev pub places_or_none : Option Places → Places
places_or_none None = no_places
places_or_none (Some at) = at

abbrev pub places_in : List Places → Option ℕ → Places
places_in ats None = no_places
places_in ats (Some n) = places_or_none (slice_get ats n)

-- a use, the words that refer to its symbol, and those that may reach what that names
abbrev pub use_records : List Places → ℕ → Use → List UseRecord
use_records ats number u =
    use_record number u ∷ map (word_record (places_in ats u.object) (number_or_none u.object) number) u.references
    ++ map (word_record (places_in ats u.object) (number_or_none u.object) number) u.near

-- the uses of these names, of which the first has this number
abbrev pub records_from : List Places → ℕ → List (List Use) → List UseRecord
records_from ats number [] = []
records_from ats number (g ∷ gs) = flat_map (use_records ats number) g ++ records_from ats (number + 1) gs
