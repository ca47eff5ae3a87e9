-- The law of conversion: what an object in GNU's form and the object that it becomes have in common.
use Rattle.std.specs.{Prelude.{◌≡◌, ◌≢◌, ℕ, ◌+◌, ◌/◌, true, List, map, take, drop, slice_get, Some, Ok}, List.AllZip}
use Rattle.aout_core.specs.{declared.header.Header.Header, declared.reloc.Reloc.Reloc, declared.reloc.Kind.TheVariants.External}
use Rattle.aout_core.specs.{Contents.Contents, Decoding.header_in, WellFormed.kind_of, WellFormed.is_pc_relative, WellFormed.symbol_number}
use Rattle.gnu_objects.specs.{GnuForm.{words_from, symbols_of, strings_of, relocation_of, name_at}, declared.options.Options.Options}
use Rattle.gnu_objects.specs.{declared.symbols.GnuSymbol.GnuSymbol, Staying.{stays, staying, kept}, Converted.{converted, converted_symbol}}

-- a file in GNU's form by its parts
pub record GnuFile : Type 0 where
  pub header : Header
  pub text_words : List ℕ
  pub data_words : List ℕ
  -- the relocation words of text, and then those of data
  pub relocation : List ℕ
  pub strings : List ℕ
  pub symbols : List GnuSymbol

abbrev pub file_under : List ℕ → Header → GnuFile
file_under bytes h = record {
  header = h;
  text_words = words_from bytes 16 (h.text_size / 2);
  data_words = words_from bytes (16 + h.text_size) (h.data_size / 2);
  relocation = relocation_of bytes h;
  strings = strings_of bytes h;
  symbols = symbols_of bytes h;
}

abbrev pub gnu_file : List ℕ → GnuFile
gnu_file bytes = file_under bytes (header_in (take 16 bytes))

-- symbol n, which the options keep
pub record Stays (o : Options) (g : GnuFile) (n : ℕ) (s : GnuSymbol) : Type 0 where
  pub is : slice_get g.symbols n ≡ Some s
  pub stays : stays o.locals g.strings g.symbols g.relocation n s ≡ true

-- number n of the one file is that of a symbol, and number m of the other of a symbol with its name, type and value
abbrev pub RefersAlike : GnuFile → Contents → ℕ → ℕ → Type 0
RefersAlike g c n m =
    (s : GnuSymbol) × (slice_get g.symbols n ≡ Some s) × (slice_get c.symbols m ≡ Some (converted_symbol g.strings s))

-- a relocation word and what becomes of it
pub record IsSameReference (g : GnuFile) (c : Contents) (before after : Reloc) : Type 0 where
  pub pc : is_pc_relative after ≡ is_pc_relative before
  pub kind : kind_of after ≡ kind_of before
  pub number : kind_of before ≢ Some External → after ≡ before
  pub refers : kind_of before ≡ Some External → RefersAlike g c (symbol_number before) (symbol_number after)

abbrev pub AreSameReferences : GnuFile → Contents → List ℕ → List Reloc → Type 0
AreSameReferences g c before after = AllZip (λ (w : ℕ) (r : Reloc). IsSameReference g c (record { 0 = w }) r) before after

pub record IsConversion (o : Options) (g : GnuFile) (c : Contents) : Type 0 where
  pub text_size : c.header.text_size ≡ g.header.text_size
  pub data_size : c.header.data_size ≡ g.header.data_size
  pub bss_size : c.header.bss_size ≡ g.header.bss_size
  -- each word keeps its value
  pub text_words : c.text_words ≡ g.text_words
  pub data_words : c.data_words ≡ g.data_words
  -- each word has a relocation word, with its kind and its pc bit, which refers to what it referred to
  pub text_reloc : AreSameReferences g c (take (g.header.text_size / 2) g.relocation) c.text_reloc
  pub data_reloc : AreSameReferences g c (drop (g.header.text_size / 2) g.relocation) c.data_reloc
  -- the symbols that the options keep are there, in their order, with type and value, and there are no others
  pub symbols : c.symbols ≡ map (converted_symbol g.strings) (kept (staying o.locals g.strings g.symbols g.relocation) g.symbols)
  -- different names stay different
  pub names : (m n : ℕ) (s t : GnuSymbol) → Stays o g m s → Stays o g n t → name_at g.strings s.place ≢ name_at g.strings t.place →
      (converted_symbol g.strings s).name ≢ (converted_symbol g.strings t).name

abbrev pub ConversionLaw : Type 0
ConversionLaw = (o : Options) (bytes : List ℕ) (c : Contents) → converted o bytes ≡ Ok c → IsConversion o (gnu_file bytes) c
