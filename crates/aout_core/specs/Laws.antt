-- The laws of the format, each proved by a function of the module `laws`. (a.out(5))
--
-- What was written is read back, whatever follows it. What is read is what the bytes encode. Bytes encode one file at most.
use Rattle.std.specs.Prelude.{◌≡◌, ℕ, List, ◌++◌, take, Ok}
use Rattle.aout_core.specs.Encoding.{file_length, encoding}
use Rattle.aout_core.specs.{Words.AreBytes, Contents.Contents, Contents.IsSound, Decoding.decode, Encodes.Encodes}

-- the encoding of a file, whatever follows it, is read as that file
abbrev pub EncodingLaw : Type 0
EncodingLaw = (c : Contents) (rest : List ℕ) → IsSound c → decode (encoding c ++ rest) ≡ Ok c

-- the file that is read from bytes is sound, and the bytes up to its end encode it
abbrev pub ReadingLaw : Type 0
ReadingLaw = (bytes : List ℕ) (c : Contents) → AreBytes bytes → decode bytes ≡ Ok c →
    IsSound c × Encodes (take (file_length c.header) bytes) c

-- the same bytes encode one file at most
abbrev pub OneFile : Type 0
OneFile = (bytes : List ℕ) (c d : Contents) → IsSound c → IsSound d → Encodes bytes c → Encodes bytes d → c ≡ d

-- bytes that encode a file, whatever follows them, are read as that file
abbrev pub EncodedIsRead : Type 0
EncodedIsRead = (bytes rest : List ℕ) (c : Contents) → IsSound c → Encodes bytes c → decode (bytes ++ rest) ≡ Ok c
