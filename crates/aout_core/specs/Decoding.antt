-- The file that a list of bytes begins with, or why it begins with none. (a.out(5); the refusals: own choice)
--
-- The first 16 bytes are the header. If its magic and its sizes may be in a file, the lists are taken from the bytes after it, each
-- from its place and as long as the header announces. What follows the last symbol is not part of the file.
use Rattle.std.specs.Prelude.{ℕ, zero, suc, ◌+◌, ◌/◌, not, if◌then◌else◌, nat_lt, List, [], ◌∷◌, map, take, drop, length, slice_index}
use Rattle.std.specs.Prelude.{Result, Ok, Err}
use Rattle.aout_core.specs.declared.file.ReadFault.TheVariants.{ShortHeader, BadMagic, OddSize, Truncated}
use Rattle.aout_core.specs.Contents.{Contents, is_magic, has_whole_sizes, with_relocation}
use Rattle.aout_core.specs.{Encoding.{relocation_at, symbols_at, file_length}, declared.header.Header.Header, declared.reloc.Reloc.Reloc}
use Rattle.aout_core.specs.{declared.symbol.Symbol.Symbol, declared.file.ReadFault.ReadFault, Words.words_in, Names.before_nul}

-- size bytes from a place on
abbrev pub part : ℕ → ℕ → List ℕ → List ℕ
part from size bytes = take size (drop from bytes)

abbrev pub header_of : List ℕ → Header
header_of words = record {
  magic = slice_index words 0;
  text_size = slice_index words 1;
  data_size = slice_index words 2;
  bss_size = slice_index words 3;
  symbol_size = slice_index words 4;
  entry_point = slice_index words 5;
  unused = slice_index words 6;
  flag = slice_index words 7;
}

abbrev pub header_in : List ℕ → Header
header_in bytes = header_of (words_in (take 16 bytes))

abbrev pub relocs_in : List ℕ → List Reloc
relocs_in bytes = map (λ w. record { 0 = w }) (words_in bytes)

-- a name of eight bytes, of which those after a NUL are ignored, and two words
abbrev pub symbol_in : List ℕ → Symbol
symbol_in bytes =
    let words : List ℕ = words_in (part 8 4 bytes) in
    record { name = before_nul (take 8 bytes); type_bits = slice_index words 0; value = slice_index words 1 }

-- so many symbols of 12 bytes each
abbrev pub symbols_in : ℕ → List ℕ → List Symbol
symbols_in zero bytes = []
symbols_in (suc n) bytes = symbol_in (take 12 bytes) ∷ symbols_in n (drop 12 bytes)

-- each part at its place
abbrev pub contents_in : Header → List ℕ → Contents
contents_in h bytes = record {
  header = h;
  text_words = words_in (part 16 h.text_size bytes);
  data_words = words_in (part (16 + h.text_size) h.data_size bytes);
  text_reloc = relocs_in (part (relocation_at h) (with_relocation h h.text_size) bytes);
  data_reloc = relocs_in (part (relocation_at h + with_relocation h h.text_size) (with_relocation h h.data_size) bytes);
  symbols = symbols_in (h.symbol_size / 12) (drop (symbols_at h) bytes);
}

-- the first refusal that applies, or the file that the first bytes encode, under this header
abbrev pub decode_with : Header → List ℕ → Result Contents ReadFault
decode_with h bytes =
    if nat_lt (length bytes) 16 then Err ShortHeader
    else (if not (is_magic h.magic) then Err BadMagic
    else (if not (has_whole_sizes h) then Err OddSize
    else (if nat_lt (length bytes) (file_length h) then Err Truncated
    else Ok (contents_in h bytes))))

abbrev pub decode : List ℕ → Result Contents ReadFault
decode bytes = decode_with (header_in bytes) bytes
