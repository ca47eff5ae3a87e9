-- What `read_file` returns for the bytes that it was given, and what it leaves of them.
--
-- It returns the file that the bytes begin with, or the first refusal, and takes no byte after the file. Two things do not follow
-- from the bytes: whether memory runs out for the lists, and whether the device fails.
use Rattle.std.specs.Prelude.{◌≡◌, ℕ, ◌<◌, ◌≤◌, List, [], drop, length, Option, Some, Result, Ok, Err, IsTrue}
use Rattle.aout_core.specs.declared.file.ReadFault.TheVariants.{ShortHeader, Memory, Truncated, Device}
use Rattle.aout_core.specs.{Contents.{Contents, is_magic, has_whole_sizes}, declared.header.Header.Header}
use Rattle.aout_core.specs.{declared.file.ReadFault.ReadFault, Encoding.file_length, Decoding.{header_in, decode}}

-- nothing is wrong with the magic and the sizes
pub record IsFileHeader (h : Header) : Type 0 where
  pub magic : IsTrue (is_magic h.magic)
  pub sizes : IsTrue (has_whole_sizes h)

-- the bytes begin with a header of a file
pub record HasHeader (bytes : List ℕ) : Type 0 where
  pub long : 16 ≤ length bytes
  pub header : IsFileHeader (header_in bytes)

-- the result is the file that the bytes begin with, or the refusal, unless the device failed, or memory ran out for what the
-- header announces after its 16 bytes
abbrev pub IsReadOf : Result Contents ReadFault → List ℕ → Type 0
IsReadOf (Ok c) bytes = decode bytes ≡ Ok c
IsReadOf (Err (Memory _)) bytes = HasHeader bytes × (16 < file_length (header_in bytes))
IsReadOf (Err (Device _)) bytes = Unit {0}
IsReadOf (Err fault) bytes = decode bytes ≡ Err fault

-- a file was taken whole and nothing more, and of too few bytes none is left. After a refused header, or if memory ran out, the
-- header alone was taken. For a device that failed nothing is specified
abbrev pub LeavesAfter : Result Contents ReadFault → List ℕ → Option (List ℕ) → Type 0
LeavesAfter (Ok c) bytes left = left ≡ Some (drop (file_length c.header) bytes)
LeavesAfter (Err ShortHeader) bytes left = left ≡ Some []
LeavesAfter (Err Truncated) bytes left = left ≡ Some []
LeavesAfter (Err (Device _)) bytes left = Unit {0}
LeavesAfter (Err fault) bytes left = left ≡ Some (drop 16 bytes)
