-- Objects in GNU's form, as lists of bytes. (binutils, pdp11-aout)
--
-- The header has the eight words of the Seventh Edition, and text, data and relocation follow it as in a.out(5). After them come the
-- symbols, 8 bytes each, and after these the strings. They begin with their length in four bytes, which counts these four too.
use Rattle.std.specs.Prelude.{ℕ, ◌+◌, ◌*◌, ◌/◌, Bool, ◌&&◌, ◌||◌, ◌==◌, nat_lt, if◌then◌else◌, List, [], map, take, drop, replicate}
use Rattle.std.specs.{Prelude.slice_index, List.{list_any, range_with_len}}
use Rattle.aout_core.specs.{Encoding.{relocation_at, symbols_at, file_length}, declared.header.Header.Header, Names.before_nul}
use Rattle.gnu_objects.specs.declared.symbols.GnuSymbol.{GnuSymbol}

-- a word has its low byte first, and a number of two words its high word first
abbrev pub word_at : List ℕ → ℕ → ℕ
word_at bytes at = slice_index bytes at + 256 * slice_index bytes (at + 1)

abbrev pub long_at : List ℕ → ℕ → ℕ
long_at bytes at = 65536 * word_at bytes at + word_at bytes (at + 2)

-- so many words from a place on
abbrev pub words_from : List ℕ → ℕ → ℕ → List ℕ
words_from bytes at count = map (λ n. word_at bytes (at + 2 * n)) (range_with_len 0 count)

abbrev pub symbol_at : List ℕ → ℕ → GnuSymbol
symbol_at bytes at = record {
  description = word_at bytes at;
  place = word_at bytes (at + 2);
  type_bits = slice_index bytes (at + 4);
  overlay = slice_index bytes (at + 5);
  value = word_at bytes (at + 6);
}

-- so many symbols from a place on
abbrev pub symbols_from : List ℕ → ℕ → ℕ → List GnuSymbol
symbols_from bytes at count = map (λ n. symbol_at bytes (at + 8 * n)) (range_with_len 0 count)

abbrev pub symbols_of : List ℕ → Header → List GnuSymbol
symbols_of bytes h = symbols_from bytes (symbols_at h) (h.symbol_size / 8)

-- the strings with their length, which are missing if there are no symbols
abbrev pub strings_of : List ℕ → Header → List ℕ
strings_of bytes h =
    if h.symbol_size == 0 then []
    else take (long_at bytes (file_length h)) (drop (file_length h) bytes)

-- the relocation words of text and of data; an object without any has flag 1, and then each is that of a number
abbrev pub relocation_of : List ℕ → Header → List ℕ
relocation_of bytes h =
    let count : ℕ = h.text_size / 2 + h.data_size / 2 in
    if h.flag == 0 then words_from bytes (relocation_at h) count else replicate count 0

-- the name at a place of the strings, up to a NUL or the end; at 0 there is none
abbrev pub name_at : List ℕ → ℕ → List ℕ
name_at strings place = if place == 0 then [] else before_nul (drop place strings)

-- symbols for a debugger: types above 044, and 040 and 044 with a colon in the name
abbrev pub is_stab : List ℕ → GnuSymbol → Bool
is_stab strings s =
    nat_lt 0o44 s.type_bits
    || ((s.type_bits == 0o40 || s.type_bits == 0o44) && list_any (λ b. b == 58) (name_at strings s.place))
