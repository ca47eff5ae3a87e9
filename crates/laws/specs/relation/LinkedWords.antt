-- The words and the relocation words of a linked file, by the objects, its header and its rows. (a.out(5), ld(1))
--
-- Each word of each object is there, relocated, after those of the objects before it. With relocation, so is its relocation word,
-- which keeps its pc bit, and names the segment that the word is bound in now, or the row of the name that it still waits for.
use Rattle.std.specs.Prelude.{◌≡◌, ℕ, ◌+◌, ◌-◌, ◌*◌, ◌/◌, ◌%◌, ◌≤◌, true, eqb, if◌then◌else◌, List, ◌∷◌, ◌++◌, map, Option, Some, None}
use Rattle.std.specs.Prelude.{slice_get}
use Rattle.aout_core.specs.{declared.symbol.Segment.Segment, declared.reloc.Reloc.Reloc, declared.reloc.Kind.Kind, Contents.Contents}
use Rattle.aout_core.specs.{WellFormed.{masked_type, kind_of, symbol_number}, declared.symbol.Symbol.Symbol}
use Rattle.aout_core.specs.declared.reloc.Kind.TheVariants as kinds
use Rattle.link_session.specs.{Starts.total, Mentions.place_of, Cells.segment_words, Cells.segment_relocs}
use Rattle.laws.specs.relation.Relocated.{entry_of, IsRelocated}

-- each word of each object is at its place, relocated
abbrev pub AreRelocated : Contents → List Symbol → List Contents → Segment → Type 0
AreRelocated file rows os segment = (before : List Contents) (k : Contents) (after : List Contents) → os ≡ before ++ k ∷ after →
    (i w : ℕ) (r : Reloc) → slice_get (segment_words segment k) i ≡ Some w →
    slice_get (segment_relocs segment k) i ≡ Some r → IsRelocated file rows os before k segment i w r

-- the bits of a relocation word that names a row: the segment that it is bound in, or 010 and its number in the table
abbrev pub row_bits : Symbol → ℕ → ℕ
row_bits r number = if eqb (masked_type r) 0 then 0o10 + 0o20 * number else 2 * (masked_type r - 1)

-- the external row that a symbol number of an object names, after so many locals, and its bits; a number is at most 4,095
pub record IsNamedBy (rows : List Symbol) (locals : ℕ) (k : Contents) (number bits : ℕ) : Type 0 where
  pub symbol : Symbol
  pub row : Symbol
  pub named : slice_get k.symbols number ≡ Some symbol
  pub found : entry_of rows symbol.name ≡ Some row
  pub are : bits ≡ row_bits row (locals + place_of symbol.name (map (λ s. s.name) rows))
  pub numbered : eqb (masked_type row) 0 ≡ true → locals + place_of symbol.name (map (λ s. s.name) rows) ≤ 4095

abbrev pub AreBits : List Symbol → ℕ → Contents → Option Kind → ℕ → ℕ → Type 0
AreBits rows locals k None number bits = ⊥
AreBits rows locals k (Some kinds.Absolute) number bits = bits ≡ 0
AreBits rows locals k (Some kinds.TextSeg) number bits = bits ≡ 2
AreBits rows locals k (Some kinds.DataSeg) number bits = bits ≡ 4
AreBits rows locals k (Some kinds.BssSeg) number bits = bits ≡ 6
AreBits rows locals k (Some kinds.External) number bits = IsNamedBy rows locals k number bits

-- relocation word i of a segment of k, which is r, is at its place with its pc bit and what it names now
pub record IsKept (file : Contents) (rows : List Symbol) (locals : ℕ) (before : List Contents) (k : Contents)
    (segment : Segment) (i : ℕ) (r : Reloc) : Type 0 where
  pub bits : ℕ
  pub are : AreBits rows locals k (kind_of r) (symbol_number r) bits
  pub word : slice_get (segment_relocs segment file) (total segment before / 2 + i) ≡ Some (record { 0 = r.0 % 2 + bits })

abbrev pub AreKept : Contents → List Symbol → ℕ → List Contents → Segment → Type 0
AreKept file rows locals os segment = (before : List Contents) (k : Contents) (after : List Contents) → os ≡ before ++ k ∷ after →
    (i w : ℕ) (r : Reloc) → slice_get (segment_words segment k) i ≡ Some w →
    slice_get (segment_relocs segment k) i ≡ Some r → IsKept file rows locals before k segment i r
