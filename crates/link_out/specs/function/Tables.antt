-- The symbol table and the relocation words that are written. (a.out(5), ld(1))
--
-- The table has the kept locals of all objects, and after them the externals by first mention. A relocation word keeps its pc
-- bit, and names the segment that its word is bound to now, or the number in this table of the name that its word still waits for.
use Rattle.std.specs.Prelude.{ℕ, ◌+◌, ◌*◌, ◌%◌, Bool, false, ◌||◌, nat_lt, List, [], ◌++◌, map, filter, length, Option, Some, None}
use Rattle.std.specs.List.{flat_map, list_any}
use Rattle.aout_core.specs.declared.symbol.Segment.TheVariants.{TextSeg, DataSeg, BssSeg}
use Rattle.aout_core.specs.{declared.symbol.Symbol.Symbol, declared.symbol.Segment.Segment, declared.reloc.Reloc.Reloc, Contents.Contents}
use Rattle.aout_core.specs.{Words.plus, WellFormed.segment_of}
use Rattle.link_session.specs.Cells.{Referent, to_segment, to_name, referent, words_of}
use Rattle.link_session.specs.{Earlier.with_earlier, Mentions.names_by_first_mention, Mentions.place_of}
use Rattle.link_out.specs.{Layouts.Bases, function.Plans.Plan, function.Finals.final, function.Finals.type_of, function.Words.move}
pub use Rattle.link_out.specs.KeptSymbols.{begins_with_l, keeps, is_kept_local, rows_kept}

-- a local of text, data or bss moves with its segment
abbrev pub moved_value : Bases → List Contents → Contents → Segment → ℕ → ℕ
moved_value b earlier o TextSeg value = plus value (move b earlier o TextSeg)
moved_value b earlier o DataSeg value = plus value (move b earlier o DataSeg)
moved_value b earlier o BssSeg value = plus value (move b earlier o BssSeg)
moved_value b earlier o _ value = value

abbrev pub moved_local : Bases → List Contents → Contents → Symbol → Symbol
moved_local b earlier o s = record s { value = moved_value b earlier o (segment_of s) s.value }

-- the kept locals of all objects, in order
abbrev pub local_rows : Plan → List Contents → List Symbol
local_rows p os =
    flat_map (λ q. map (moved_local p.at q.0 q.1) (filter (is_kept_local p.choices.keep) q.1.symbols)) (with_earlier [] os)

abbrev pub external_row : Plan → List ℕ → Symbol
external_row p name =
    record { name = name; type_bits = type_of (final p name).bound; value = (final p name).written }

abbrev pub external_rows : Plan → List Symbol
external_rows p = map (external_row p) (names_by_first_mention p.mentions)

-- the kept locals, then the externals by first mention
abbrev pub table : Plan → List Contents → List Symbol
table p os = rows_kept p.choices.keep (local_rows p os ++ external_rows p)

-- the number of a name in the table
abbrev pub row_of : Plan → List Contents → List ℕ → ℕ
row_of p os name = length (local_rows p os) + place_of name (names_by_first_mention p.mentions)

-- the kind of a segment in a relocation word, or 010 and the number of the name that is waited for
abbrev pub segment_bits : Segment → ℕ
segment_bits TextSeg = 0o2
segment_bits DataSeg = 0o4
segment_bits BssSeg = 0o6
segment_bits _ = 0

abbrev pub name_bits : Option Segment → ℕ → ℕ
name_bits (Some segment) row = segment_bits segment
name_bits None row = 0o10 + 0o20 * row

abbrev pub referent_bits : Plan → List Contents → Referent → ℕ
referent_bits p os (to_segment segment) = segment_bits segment
referent_bits p os (to_name name) = name_bits (final p name).bound (row_of p os name)

abbrev pub final_reloc : Plan → List Contents → Contents → Reloc → Reloc
final_reloc p os o r = record { 0 = r.0 % 2 + referent_bits p os (referent o r) }

-- the relocation words of one segment of all objects
abbrev pub final_relocs : Plan → List Contents → Segment → List Reloc
final_relocs p os segment = flat_map (λ q. map (λ wr. final_reloc p os q.1 wr.1) (words_of segment q.1)) (with_earlier [] os)

-- not bound, and of a number that is too large for a relocation word
abbrev pub number_too_large : Option Segment → ℕ → Bool
number_too_large (Some segment) row = false
number_too_large None row = nat_lt 4095 row

-- a word refers to such a name
abbrev pub needs_too_large : Plan → List Contents → Referent → Bool
needs_too_large p os (to_segment segment) = false
needs_too_large p os (to_name name) = number_too_large (final p name).bound (row_of p os name)

abbrev pub has_too_large_in : Plan → List Contents → Segment → Bool
has_too_large_in p os segment = list_any (λ (o : Contents). list_any (λ wr. needs_too_large p os (referent o wr.1)) (words_of segment o)) os

abbrev pub has_number_too_large : Plan → List Contents → Bool
has_number_too_large p os = has_too_large_in p os TextSeg || has_too_large_in p os DataSeg
