-- When bytes encode a file: names may have anything after their first NUL. (a.out(5); NULs: own choice)
--
-- Reading ignores what is in a name after a NUL, so the same file may be read from bytes other than `encoding` has for it.
-- In every other place they are the same.
use Rattle.std.specs.Prelude.{◌≡◌, ◌⊎◌, ℕ, ◌+◌, ◌*◌, ◌<◌, ◌≤◌, List, length, Some, slice_get}
use Rattle.aout_core.specs.{Contents.Contents, Encoding.symbols_at, Encoding.encoding}

-- the place is one of the eight bytes of the name of the symbol numbered `entry`, and after a NUL among them; the symbols
-- begin at `table`
pub record IsAfterNul (table : ℕ) (bytes : List ℕ) (place : ℕ) : Type 0 where
  pub entry : ℕ
  pub nul : ℕ
  pub from_name : table + 12 * entry ≤ nul
  pub is_nul : slice_get bytes nul ≡ Some 0
  pub past_nul : nul < place
  pub in_name : place < table + 12 * entry + 8

-- the bytes are the file's encoding, but for what is in a name after a NUL
pub record Encodes (bytes : List ℕ) (c : Contents) : Type 0 where
  pub same_length : length bytes ≡ length (encoding c)
  pub same_bytes : (place : ℕ) → place < length bytes →
      (slice_get bytes place ≡ slice_get (encoding c) place) ⊎ IsAfterNul (symbols_at c.header) bytes place
