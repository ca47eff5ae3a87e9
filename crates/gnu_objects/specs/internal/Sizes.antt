-- Headers in which nothing is wrong.
use Rattle.std.specs.Prelude.{◌≡◌, ℕ, ◌%◌, ◌≤◌, List, None, length, take}
use Rattle.aout_core.specs.{declared.header.Header.Header, Decoding.header_in, Encoding.file_length}
use Rattle.gnu_objects.specs.GnuRefusals.{header_refusal, strings_refusal}

-- the header of an object, with segments of whole words, in a file of so many bytes
pub record IsObjectHeader (size : ℕ) (h : Header) : Type 0 where
  pub magic : h.magic ≡ 0o407
  pub text : h.text_size % 2 ≡ 0
  pub «data» : h.data_size % 2 ≡ 0
  pub bss : h.bss_size % 2 ≡ 0
  pub long : file_length h ≤ size

-- the header of these bytes, whose header, sizes and strings are not refused
pub record IsWhole (bytes : List ℕ) (h : Header) : Type 0 where
  pub is : h ≡ header_in (take 16 bytes)
  pub header : header_refusal (length bytes) h ≡ None
  pub strings : strings_refusal bytes h ≡ None
  pub object : IsObjectHeader (length bytes) h
