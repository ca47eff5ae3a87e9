-- The parts of a file that are written one after another.
use Rattle.std.specs.Prelude.{ℕ, List, ◌++◌}
use Rattle.aout_core.specs.{Contents.Contents, Encoding.header_encoding, Encoding.reloc_encoding, Words.all_word_bytes}

-- the file up to its relocation, and up to its symbols
abbrev pub to_relocation : Contents → List ℕ
to_relocation c = header_encoding c.header ++ (all_word_bytes c.text_words ++ all_word_bytes c.data_words)

abbrev pub to_table : Contents → List ℕ
to_table c = to_relocation c ++ (reloc_encoding c.text_reloc ++ reloc_encoding c.data_reloc)
