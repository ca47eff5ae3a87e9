-- The uses of names: the symbols that define a name or want it, and the words that lead to it. (ld(1), nm(1))
--
-- Each external symbol of an object is a use of its name, with the words of the object that lead to the symbol, and those that may reach
-- what it names. A forced name is used by no object. The map has the uses in the order of their names; those of one name stay in the order of the
-- objects, forced ones first.
use Rattle.std.specs.Prelude.{ℕ, ◌+◌, Bool, false, not, ◌&&◌, eqb, if◌then◌else◌, List, [], ◌∷◌, ◌++◌, map, Option, Some, None}
use Rattle.std.specs.{Prelude.slice_get, List.list_any, Cmp.Lexicographic.slice_cmp, Ordering.{nat_cmp, is_lt}}
use Rattle.aout_core.specs.{declared.symbol.Symbol.Symbol, Contents.Contents, WellFormed.is_external, WellFormed.masked_type}
use Rattle.instructions.specs.declared.unix.Decoder.TheVariants.{Unix}
use Rattle.disassemblies.specs.Starts.{starts}
use Rattle.link_session.specs.declared.state.State.TheVariants.{Wanted}
use Rattle.link_out.specs.function.Reports.{is_missing}
use Rattle.symtools.specs.NmLists.{in_order}
use Rattle.link_maps.specs.{declared.references.ReferringWord.ReferringWord, Leads.{near_to, references_to}}

-- the number of the object, counted from 0; none for a forced name
pub record Use : Type 0 where
  pub object : Option ℕ
  pub symbol : Symbol
  pub references : List ReferringWord
  pub near : List ReferringWord

abbrev pub use_of : ℕ → List Bool → Contents → ℕ → Symbol → Use
use_of object starts o number s =
    record { object = Some object; symbol = s; references = references_to starts o number s; near = near_to starts o number s }

-- the use by the symbol of this number, if that is external
abbrev pub use_by : ℕ → List Bool → Contents → ℕ → Symbol → List Use
use_by object starts o number s = if is_external s then use_of object starts o number s ∷ [] else []

-- the uses by these symbols of an object, of which the first has this number
abbrev pub uses_by : ℕ → List Bool → Contents → ℕ → List Symbol → List Use
uses_by object starts o number [] = []
uses_by object starts o number (s ∷ ss) = use_by object starts o number s ++ uses_by object starts o (number + 1) ss

abbrev pub uses_in : ℕ → Contents → List Use
uses_in object o = uses_by object (starts Unix o) o 0 o.symbols

-- the uses in these objects, of which the first has this number
abbrev pub uses_from : ℕ → List Contents → List Use
uses_from object [] = []
uses_from object (o ∷ os) = uses_in object o ++ uses_from (object + 1) os

abbrev pub forced_use : List ℕ → Use
forced_use name = record { object = None; symbol = record { name = name; type_bits = 0o40; value = 0 }; references = []; near = [] }

-- the uses of all names, those of forced names first
abbrev pub uses : List (List ℕ) → List Contents → List Use
uses forced os = map forced_use forced ++ uses_from 0 os

abbrev pub name_of : Use → List ℕ
name_of u = u.symbol.name

abbrev pub is_before : Use → Use → Bool
is_before u v = is_lt (slice_cmp nat_cmp (name_of u) (name_of v))

abbrev pub uses_in_order : List (List ℕ) → List Contents → List Use
uses_in_order forced os = in_order is_before (uses forced os)

-- a definition; and a common, which is undefined and has a size
abbrev pub is_definition : Use → Bool
is_definition u = not (eqb (masked_type u.symbol) 0)

abbrev pub is_common : Use → Bool
is_common u = eqb (masked_type u.symbol) 0 && not (eqb u.symbol.value 0)

-- the name is not one that the linker defines
abbrev pub is_missing_in : Option Use → Bool
is_missing_in None = false
is_missing_in (Some u) = is_missing (name_of u) (Wanted 0)

-- a link leaves the name of these uses undefined
abbrev pub stays_undefined : List Use → Bool
stays_undefined us = not (list_any is_definition us) && (not (list_any is_common us) && is_missing_in (slice_get us 0))
