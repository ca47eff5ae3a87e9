-- What has been read of a listing so far, and the file that it makes. (a.out(5))
--
-- Next is the address of the next word of the section, or the number of the next symbol.
use Rattle.std.specs.Prelude.{ℕ, ◌*◌, List, [], length}
use Rattle.aout_core.specs.{declared.reloc.Reloc.Reloc, declared.symbol.Symbol.Symbol, Contents.Contents}
use Rattle.listings.specs.{declared.fault.Section.Section, declared.fault.Section.TheVariants.InHeader, declared.draft.Addresses.Addresses}

pub record Segment : Type 0 where
  pub words : List ℕ
  pub relocs : List Reloc

pub record Draft : Type 0 where
  pub addresses : Addresses
  pub section : Section
  pub next : ℕ
  pub magic : ℕ
  pub bss : ℕ
  pub entry : ℕ
  pub unused : ℕ
  pub flag : ℕ
  pub text_part : Segment
  pub data_part : Segment
  pub symbols : List Symbol

abbrev pub empty_segment : Segment
empty_segment = record { words = []; relocs = [] }

abbrev pub empty_draft : Addresses → Draft
empty_draft addresses =
    record {
      addresses = addresses;
      section = InHeader;
      next = 0;
      magic = 0o407;
      bss = 0;
      entry = 0;
      unused = 0;
      flag = 0;
      text_part = empty_segment;
      data_part = empty_segment;
      symbols = [];
    }

abbrev pub finished : Draft → Contents
finished d = record {
  header = record {
    magic = d.magic;
    text_size = 2 * length d.text_part.words;
    data_size = 2 * length d.data_part.words;
    bss_size = d.bss;
    symbol_size = 12 * length d.symbols;
    entry_point = d.entry;
    unused = d.unused;
    flag = d.flag;
  };
  text_words = d.text_part.words;
  data_words = d.data_part.words;
  text_reloc = d.text_part.relocs;
  data_reloc = d.data_part.relocs;
  symbols = d.symbols;
}
