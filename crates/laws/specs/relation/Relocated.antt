-- What becomes of the objects' words, and the entry word, by the header and the external symbols of a linked file. (a.out(5), ld(1))
--
-- The header of a linked file determines the addresses of its segments, and its symbols those of the names. To a word that refers to a
-- segment of its object the distance is added by which that segment was moved, and to one that refers to a name the address of the
-- name. If the word is relative to the pc, the distance by which its own segment was moved is subtracted. Linking does no more.
use Rattle.std.specs.Prelude.{◌≡◌, ℕ, ◌+◌, ◌-◌, ◌*◌, ◌/◌, ◌≤◌, ◌⊎◌, false, cond, ◌&&◌, eqb, List, [], ◌∷◌, length, Option, Some, None}
use Rattle.std.specs.Prelude.{slice_get, bytes_eq}
use Rattle.aout_core.specs.declared.symbol.Segment.TheVariants.{TextSeg, DataSeg, BssSeg}
use Rattle.aout_core.specs.{declared.symbol.Symbol.Symbol, declared.symbol.Segment.Segment, declared.reloc.Reloc.Reloc}
use Rattle.aout_core.specs.{WellFormed.{is_external, masked_type, kind_of, is_pc_relative, symbol_number}, declared.header.Header.Header}
use Rattle.aout_core.specs.{declared.reloc.Kind.Kind, Contents.Contents, Addresses.data_start_in, Words.{plus, minus}}
use Rattle.aout_core.specs.declared.reloc.Kind.TheVariants as kinds
use Rattle.link_session.specs.{Starts.total, Starts.own, Cells.segment_words}

-- the address at which a segment begins in core, by the header and the objects' bytes of bss
abbrev pub base_in : Header → ℕ → Segment → ℕ
base_in h bss DataSeg = data_start_in h
base_in h bss BssSeg = data_start_in h + h.data_size + (h.bss_size - bss)
base_in h bss _ = 0

-- how far a segment of an object is moved, that comes after the same segment of the objects before it
abbrev pub move_in : Header → List Contents → List Contents → Contents → Segment → ℕ
move_in h os before k TextSeg = minus (base_in h (total BssSeg os) TextSeg + total TextSeg before) (own k TextSeg)
move_in h os before k DataSeg = minus (base_in h (total BssSeg os) DataSeg + total DataSeg before) (own k DataSeg)
move_in h os before k BssSeg = minus (base_in h (total BssSeg os) BssSeg + total BssSeg before) (own k BssSeg)
move_in h os before k _ = 0

-- the external symbol of a name
abbrev pub entry_of : List Symbol → List ℕ → Option Symbol
entry_of [] name = None
entry_of (s ∷ ss) name = cond (is_external s && bytes_eq name s.name) (Some s) (entry_of ss name)

-- the address that a symbol gives, 0 if it gives none
abbrev pub address_in : Symbol → ℕ
address_in row = cond (eqb (masked_type row) 0) 0 row.value

-- the symbol of an object with this number, the external symbol of its name among these rows, and the address that this gives
pub record IsAddressOf (rows : List Symbol) (k : Contents) (number address : ℕ) : Type 0 where
  pub symbol : Symbol
  pub row : Symbol
  pub named : slice_get k.symbols number ≡ Some symbol
  pub found : entry_of rows symbol.name ≡ Some row
  pub gives : address ≡ address_in row

-- what is to be added to a word whose relocation word has this kind and number
abbrev pub IsAdded : Header → List Symbol → List Contents → List Contents → Contents → Option Kind → ℕ → ℕ → Type 0
IsAdded h rows os before k None number a = ⊥
IsAdded h rows os before k (Some kinds.Absolute) number a = a ≡ 0
IsAdded h rows os before k (Some kinds.TextSeg) number a = a ≡ move_in h os before k TextSeg
IsAdded h rows os before k (Some kinds.DataSeg) number a = a ≡ move_in h os before k DataSeg
IsAdded h rows os before k (Some kinds.BssSeg) number a = a ≡ move_in h os before k BssSeg
IsAdded h rows os before k (Some kinds.External) number a = IsAddressOf rows k number a

-- word i of a segment of k, which is w with relocation word r, comes after that segment of the objects before k: what
-- `IsAdded` has for r is added to it, and if it is relative to the pc, how far its own segment was moved is subtracted
pub record IsRelocated (file : Contents) (rows : List Symbol) (os before : List Contents) (k : Contents)
    (segment : Segment) (i w : ℕ) (r : Reloc) : Type 0 where
  pub added : ℕ
  pub is : IsAdded file.header rows os before k (kind_of r) (symbol_number r) added
  pub word : slice_get (segment_words segment file) (total segment before / 2 + i)
      ≡ Some (minus (plus w added) (cond (is_pc_relative r) (move_in file.header os before k segment) 0))

-- text and data are as long as the objects' together, so they hold nothing else; bss is at least as long as theirs (the commons
-- in it are those of `AreRows`)
pub record HoldsObjects (file : Contents) (os : List Contents) : Type 0 where
  pub text : file.header.text_size ≡ total TextSeg os
  pub «data» : file.header.data_size ≡ total DataSeg os
  pub bss : total BssSeg os ≤ file.header.bss_size
  pub text_words : 2 * length file.text_words ≡ total TextSeg os
  pub data_words : 2 * length file.data_words ≡ total DataSeg os

-- the type word of an external that is defined there
abbrev pub external_type : Segment → ℕ
external_type TextSeg = 0o42
external_type DataSeg = 0o43
external_type BssSeg = 0o44
external_type _ = 0o41

-- the entry word is the address of its name if that has an external symbol in text, and else it is 0 and the name is bad
abbrev pub IsEntry : List Symbol → Option (List ℕ) → ℕ → Option (List ℕ) → Type 0
IsEntry rows None word bad = (word ≡ 0) × (bad ≡ None)
IsEntry rows (Some name) word bad =
    ((row : Symbol) × (entry_of rows name ≡ Some row) × (row.type_bits ≡ 0o42) × (word ≡ row.value) × (bad ≡ None))
    ⊎ (((row : Symbol) → entry_of rows name ≡ Some row → eqb row.type_bits 0o42 ≡ false) × (word ≡ 0) × (bad ≡ Some name))
