-- An object by its parts: the words of text and data, each with its relocation word, the size of bss, and the symbols. (a.out(5))
--
-- What is made of parts has magic 0407, its relocation, and 0 for the entry point and the word without a meaning, at neither of which
-- a link looks. A name is eight bytes, filled up with NULs, as in a file.
use Rattle.std.specs.Prelude.{ℕ, ◌*◌, ◌%◌, eqb, nat_lt, if◌then◌else◌, List, map, length, Result, Ok, Err, option_map, unwrap_or}
use Rattle.aout_core.specs.{declared.header.Header.Header, declared.reloc.Reloc.Reloc, declared.symbol.Symbol.Symbol}
use Rattle.aout_core.specs.{declared.file.ReadFault.TheVariants.OddSize, Names.padded, Contents.Contents, Encoding.encoding}
use Rattle.aout_core.specs.{Placed.placed_words, declared.part.Part.Part, declared.placed.PlacedWord.PlacedWord}
use Rattle.aout_core.specs.declared.part.Part.TheVariants as parts
use Rattle.link_out.specs.Steps.{and_then}
use Rattle.libv7.specs.{declared.parts.FileLists.FileLists, declared.parts.ObjectWord.ObjectWord}
use Rattle.libv7.specs.{declared.parts.ObjectParts.ObjectParts, declared.parts.PartLists.PartLists}
use Rattle.libv7.specs.{declared.parts.SymbolRow.SymbolRow, declared.cause.Cause.Cause}
use Rattle.libv7.specs.{declared.cause.LongPart.TheVariants.{Text, Data, Bss, Symbols}, FileAnswers.{file_in, object_in, object_of}}
use Rattle.libv7.specs.{declared.cause.Cause.TheVariants.{TooLong, BadFile}, LinkRequests.name_of}

pub record Pieces : Type 0 where
  pub text : List ObjectWord
  pub «data» : List ObjectWord
  pub bss : ℕ
  pub symbols : List SymbolRow

abbrev pub pieces : List ObjectWord → List ObjectWord → ℕ → List SymbolRow → Pieces
pieces text datas bss symbols = record { text = text; «data» = datas; bss = bss; symbols = symbols }

abbrev pub pieces_for : ObjectParts → Pieces
pieces_for p = pieces p.text.now p.«data».now p.bss p.symbols.now

-- ---- parts made into an object

abbrev pub header_of : Pieces → Header
header_of p = record {
  magic = 0o407;
  text_size = 2 * length p.text;
  data_size = 2 * length p.«data»;
  bss_size = p.bss;
  symbol_size = 12 * length p.symbols;
  entry_point = 0;
  unused = 0;
  flag = 0;
}

-- the first part for whose size a header has no number is refused
abbrev pub header_for : Pieces → Result Header Cause
header_for p =
    if nat_lt 32767 (length p.text) then Err (TooLong Text)
    else (if nat_lt 32767 (length p.«data») then Err (TooLong Data)
    else (if nat_lt 65535 p.bss then Err (TooLong Bss)
    else (if nat_lt 5461 (length p.symbols) then Err (TooLong Symbols)
    else (if eqb (p.bss % 2) 0 then Ok (header_of p)
    else Err (BadFile OddSize)))))

abbrev pub reloc_of : ObjectWord → Reloc
reloc_of w = record { 0 = w.reloc }

abbrev pub symbol_of : SymbolRow → Symbol
symbol_of row = record { name = name_of row.name; type_bits = row.type_bits; value = row.value }

abbrev pub contents_for : Pieces → Header → Contents
contents_for p h = record {
  header = h;
  text_words = map (λ w. w.value) p.text;
  data_words = map (λ w. w.value) p.«data»;
  text_reloc = map reloc_of p.text;
  data_reloc = map reloc_of p.«data»;
  symbols = map symbol_of p.symbols;
}

abbrev pub file_for : Pieces → Result Contents Cause
file_for p = and_then (header_for p) (λ h. Ok (contents_for p h))

-- the bytes of the object of these parts, or why they make none
abbrev pub made_of : Pieces → Result (List ℕ) Cause
made_of p = and_then (file_for p) (λ c. and_then (object_of c) (λ o. Ok (encoding o)))

-- ---- a file taken apart

-- a word with its relocation word, or with 0 if that was stripped
abbrev pub object_word : PlacedWord → ObjectWord
object_word w = record { value = w.word; reloc = unwrap_or (option_map (λ (r : Reloc). r.0) w.reloc) 0 }

abbrev pub object_words : Contents → Part → List ObjectWord
object_words c part = map object_word (placed_words c part)

abbrev pub row_of : Symbol → SymbolRow
row_of s = record { name = padded s.name; type_bits = s.type_bits; value = s.value }

abbrev pub pieces_of : Contents → Pieces
pieces_of c = pieces (object_words c parts.Text) (object_words c parts.Data) c.header.bss_size (map row_of c.symbols)

-- the parts of the object that the bytes begin with
abbrev pub parts_in : List ℕ → Result Pieces Cause
parts_in bytes = and_then (object_in bytes) (λ c. Ok (pieces_of c))

-- a header and parts
pub record Whole : Type 0 where
  pub header : Header
  pub parts : Pieces

-- the header and the parts of the file that the bytes begin with
abbrev pub whole_in : List ℕ → Result Whole Cause
whole_in bytes = and_then (file_in bytes) (λ c. Ok (record { header = c.header; parts = pieces_of c }))

abbrev pub pieces_in : PartLists → Pieces
pieces_in p = pieces p.text.items p.«data».items p.bss p.symbols.items

abbrev pub whole_of : FileLists → Whole
whole_of f = record { header = f.header; parts = pieces_in f.parts }
