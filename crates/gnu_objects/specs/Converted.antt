-- The object of the Seventh Edition that an object in GNU's form is, or why it is refused. (a.out(5); the refusals: own choice)
--
-- The words of text and data stay. A relocation word of an external gets the number that its symbol has among those that stay, and
-- else stays. A symbol keeps the first eight bytes of its name, its type and its value.
use Rattle.std.specs.Prelude.{ℕ, ◌+◌, ◌*◌, ◌/◌, ◌%◌, Bool, if◌then◌else◌, List, map, take, drop, Option, Some, None, Result, Ok, Err}
use Rattle.aout_core.specs.{declared.header.Header.Header, declared.reloc.Reloc.Reloc, declared.symbol.Symbol.Symbol}
use Rattle.aout_core.specs.{declared.object.ObjectFault.ObjectFault, Contents.Contents, Decoding.header_in, WellFormed.first_object_fault}
use Rattle.gnu_objects.specs.GnuForm.{words_from, symbols_of, strings_of, relocation_of, name_at}
use Rattle.gnu_objects.specs.{Staying.{refers, staying, pairs_kept, count}, GnuRefusals.{sizes_refusal_under, table_refusal}}
use Rattle.gnu_objects.specs.{declared.refusal.Refusal.Refusal, declared.refusal.Refusal.TheVariants.BadWord}
use Rattle.gnu_objects.specs.{declared.symbols.GnuSymbol.GnuSymbol, declared.options.Options.Options}

-- a relocation word, an external by its number among the symbols that stay
abbrev pub renumbered : List Bool → ℕ → Reloc
renumbered flags w = record { 0 = if refers w then 16 * count (take (w / 16) flags) + w % 16 else w }

abbrev pub converted_symbol : List ℕ → GnuSymbol → Symbol
converted_symbol strings s = record { name = take 8 (name_at strings s.place); type_bits = s.type_bits; value = s.value }

abbrev pub converted_symbols : List ℕ → List Bool → List GnuSymbol → List Symbol
converted_symbols strings flags symbols = map (λ p. converted_symbol strings p.0) (pairs_kept flags symbols)

-- the converted object, of the strings, the symbols, the relocation words, and whether each symbol stays
abbrev pub contents_with : List ℕ → Header → List ℕ → List GnuSymbol → List ℕ → List Bool → Contents
contents_with bytes h strings symbols words flags = record {
  header = record {
    magic = h.magic;
    text_size = h.text_size;
    data_size = h.data_size;
    bss_size = h.bss_size;
    symbol_size = 12 * count flags;
    entry_point = h.entry_point;
    unused = h.unused;
    flag = 0;
  };
  text_words = words_from bytes 16 (h.text_size / 2);
  data_words = words_from bytes (16 + h.text_size) (h.data_size / 2);
  text_reloc = map (renumbered flags) (take (h.text_size / 2) words);
  data_reloc = map (renumbered flags) (drop (h.text_size / 2) words);
  symbols = converted_symbols strings flags symbols;
}

-- the refusal, if there is one
abbrev pub unless : Option Refusal → Result Contents Refusal → Result Contents Refusal
unless None result = result
unless (Some refusal) result = Err refusal

-- the contents, if they are those of an object
abbrev pub object_unless : Option ObjectFault → Contents → Result Contents Refusal
object_unless None c = Ok c
object_unless (Some fault) c = Err (BadWord fault)

abbrev pub object_of : Contents → Result Contents Refusal
object_of c = object_unless (first_object_fault c) c

abbrev pub converted_by : Bool → List ℕ → Header → List ℕ → List GnuSymbol → List ℕ → List Bool → Result Contents Refusal
converted_by drops bytes h strings symbols words flags =
    unless (table_refusal drops h strings symbols words flags) (object_of (contents_with bytes h strings symbols words flags))

abbrev pub converted_with : Options → List ℕ → Header → List ℕ → List GnuSymbol → List ℕ → Result Contents Refusal
converted_with o bytes h strings symbols words =
    converted_by o.drops_debugger bytes h strings symbols words (staying o.locals strings symbols words)

abbrev pub converted_under : Options → List ℕ → Header → Result Contents Refusal
converted_under o bytes h =
    unless (sizes_refusal_under bytes h) (converted_with o bytes h (strings_of bytes h) (symbols_of bytes h) (relocation_of bytes h))

-- what an object in GNU's form becomes
abbrev pub converted : Options → List ℕ → Result Contents Refusal
converted o bytes = converted_under o bytes (header_in (take 16 bytes))
