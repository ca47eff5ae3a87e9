-- The encoding of a file: its bytes. (a.out(5))
--
-- The parts come one after another: 16 bytes of header, text, data, the relocation of text, that of data, and 12 bytes for each
-- symbol. Each word is written low byte first, and each name with NULs up to its eighth byte, so a file has one encoding.
use Rattle.std.specs.{Prelude.ℕ, Prelude.◌+◌, Prelude.List, Prelude.[], Prelude.◌∷◌, Prelude.◌++◌, List.flat_map}
use Rattle.aout_core.specs.{declared.header.Header.Header, declared.reloc.Reloc.Reloc, declared.symbol.Symbol.Symbol, Words.word_bytes}
use Rattle.aout_core.specs.{Words.all_word_bytes, Names.padded, Contents.Contents, Contents.with_relocation}

abbrev pub header_words : Header → List ℕ
header_words h = h.magic ∷ h.text_size ∷ h.data_size ∷ h.bss_size ∷ h.symbol_size ∷ h.entry_point ∷ h.unused ∷ h.flag ∷ []

abbrev pub header_encoding : Header → List ℕ
header_encoding h = all_word_bytes (header_words h)

abbrev pub reloc_encoding : List Reloc → List ℕ
reloc_encoding rs = flat_map (λ (r : Reloc). word_bytes r.0) rs

abbrev pub symbol_encoding : Symbol → List ℕ
symbol_encoding s = padded s.name ++ (word_bytes s.type_bits ++ word_bytes s.value)

-- where relocation and symbols begin, and how long the file is
abbrev pub relocation_at : Header → ℕ
relocation_at h = 16 + (h.text_size + h.data_size)

abbrev pub symbols_at : Header → ℕ
symbols_at h = relocation_at h + with_relocation h (h.text_size + h.data_size)

abbrev pub file_length : Header → ℕ
file_length h = symbols_at h + h.symbol_size

-- the one encoding of a file
abbrev pub encoding : Contents → List ℕ
encoding c =
    header_encoding c.header
    ++ (all_word_bytes c.text_words
    ++ (all_word_bytes c.data_words
    ++ (reloc_encoding c.text_reloc
    ++ (reloc_encoding c.data_reloc
    ++ flat_map symbol_encoding c.symbols))))
