-- What holds of a draft after each line: its lists fit a file.
use Rattle.std.specs.Prelude.{◌≡◌, ℕ, ◌%◌, ◌<◌, eqb, if◌then◌else◌, length, IsTrue}
use Rattle.aout_core.specs.Contents.{is_magic}
use Rattle.listings.specs.declared.fault.Section.TheVariants.{InHeader, InText, InData, InSymbols, Ended}
use Rattle.listings.specs.{declared.fault.Section.Section, Drafts.Segment, Drafts.Draft}

-- a relocation word for each word, or none
pub record IsWhole (flag : ℕ) (s : Segment) : Type 0 where
  pub short : length s.words < 32768
  pub relocs : length s.relocs ≡ (if eqb flag 0 then length s.words else 0)

pub record IsEmpty (s : Segment) : Type 0 where
  pub words : length s.words ≡ 0
  pub relocs : length s.relocs ≡ 0

-- no words before the first section
abbrev pub Begins : Section → Segment → Segment → Type 0
Begins InHeader s t = IsEmpty s × IsEmpty t
Begins InText s t = Unit {0}
Begins InData s t = Unit {0}
Begins InSymbols s t = Unit {0}
Begins Ended s t = Unit {0}

pub record IsDraft (d : Draft) : Type 0 where
  pub magic : IsTrue (is_magic d.magic)
  pub bss : d.bss % 2 ≡ 0
  pub text_part : IsWhole d.flag d.text_part
  pub data_part : IsWhole d.flag d.data_part
  pub symbols : length d.symbols < 5462
  pub begins : Begins d.section d.text_part d.data_part
