-- What the parts of the reader take and return: the header, and the rest after it.
use Rattle.std.specs.Prelude.{◌≡◌, ℕ, ◌+◌, ◌/◌, ◌<◌, List, [], ◌++◌, length, Option, Result, Ok, Err, IsTrue, false, vec_capacity}
use Rattle.std.specs.Io.KnownBytes.{Consumes, IsAtEnd, Keeps}
use Rattle.aout_core.specs.declared.file.ReadFault.TheVariants.{ShortHeader, BadMagic, OddSize, Memory, Truncated, Device}
use Rattle.aout_core.specs.Contents.{Contents, is_magic, has_whole_sizes, with_relocation}
use Rattle.aout_core.specs.{declared.header.Header.Header, declared.file.Parts.Parts, declared.file.ReadFault.ReadFault}
use Rattle.aout_core.specs.{Encoding.file_length, Decoding.header_in, Decoding.contents_in, Reading.IsFileHeader}

-- sixteen bytes were taken, which encode this header
pub record TakesHeader (old new : Option (List ℕ)) (h : Header) : Type 0 where
  pub start : List ℕ
  pub long : length start ≡ 16
  pub taken : Consumes old new start
  pub encoded : h ≡ header_in start

-- all bytes to the end were taken, and with the `before` bytes ahead of them they are fewer than `size`
pub record EndsEarly (old new : Option (List ℕ)) (before size : ℕ) : Type 0 where
  pub bytes : List ℕ
  pub short : before + length bytes < size
  pub taken : Consumes old new bytes
  pub end : IsAtEnd new

-- the bytes after the header were taken, and with it they encode this file
pub record TakesBody (h : Header) (old new : Option (List ℕ)) (c : Contents) : Type 0 where
  pub body : List ℕ
  pub long : 16 + length body ≡ file_length h
  pub taken : Consumes old new body
  pub encoded : (start rest : List ℕ) → length start ≡ 16 → c ≡ contents_in h (start ++ (body ++ rest))

-- what the reader of the header returns
abbrev pub IsHeaderRead : Option (List ℕ) → Option (List ℕ) → Result Header ReadFault → Type 0
IsHeaderRead old new (Ok h) = TakesHeader old new h × IsFileHeader h
IsHeaderRead old new (Err ShortHeader) = EndsEarly old new 0 16
IsHeaderRead old new (Err BadMagic) = (h : Header) × TakesHeader old new h × (is_magic h.magic ≡ false)
IsHeaderRead old new (Err OddSize) = (h : Header) × TakesHeader old new h × IsTrue (is_magic h.magic) × (has_whole_sizes h ≡ false)
IsHeaderRead old new (Err (Device _)) = Unit {0}
IsHeaderRead old new (Err fault) = ⊥

-- what the reader of the rest returns
abbrev pub IsBodyRead : Header → Option (List ℕ) → Option (List ℕ) → Result Contents ReadFault → Type 0
IsBodyRead h old new (Ok c) = TakesBody h old new c
IsBodyRead h old new (Err (Memory _)) = Keeps old new × (16 < file_length h)
IsBodyRead h old new (Err Truncated) = EndsEarly old new 16 (file_length h)
IsBodyRead h old new (Err (Device _)) = Unit {0}
IsBodyRead h old new (Err fault) = ⊥

-- parts whose lists are empty and have taken no memory
pub record HasNoItems (p : Parts) : Type 0 where
  pub no_text : p.text_words.items ≡ []
  pub no_data : p.data_words.items ≡ []
  pub no_text_reloc : p.text_reloc.items ≡ []
  pub no_data_reloc : p.data_reloc.items ≡ []
  pub no_symbols : p.symbols.items ≡ []
  pub text : vec_capacity p.text_words ≡ 0
  pub «data» : vec_capacity p.data_words ≡ 0
  pub text_relocation : vec_capacity p.text_reloc ≡ 0
  pub data_relocation : vec_capacity p.data_reloc ≡ 0
  pub symbols : vec_capacity p.symbols ≡ 0

-- parts under this header whose lists are empty, and have memory for as much as it announces
pub record HasCapacity (h : Header) (p : Parts) : Type 0 where
  pub header : p.header ≡ h
  pub no_text : p.text_words.items ≡ []
  pub no_data : p.data_words.items ≡ []
  pub no_text_reloc : p.text_reloc.items ≡ []
  pub no_data_reloc : p.data_reloc.items ≡ []
  pub no_symbols : p.symbols.items ≡ []
  pub text : vec_capacity p.text_words ≡ h.text_size / 2
  pub «data» : vec_capacity p.data_words ≡ h.data_size / 2
  pub text_relocation : vec_capacity p.text_reloc ≡ with_relocation h h.text_size / 2
  pub data_relocation : vec_capacity p.data_reloc ≡ with_relocation h h.data_size / 2
  pub table : vec_capacity p.symbols ≡ h.symbol_size / 12
