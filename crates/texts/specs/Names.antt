-- Names in bytes that print.
--
-- A byte that prints is shown as it is, except the blank and the backslash. Any other byte is a backslash and three octal digits.
use Rattle.std.specs.{Prelude.{ℕ, Bool, ◌&&◌, not, nat_lt, eqb, if◌then◌else◌, List, [], ◌∷◌}, List.flat_map}
use Rattle.texts.specs.Numbers.{three_digits}

abbrev pub is_printable : ℕ → Bool
is_printable b = nat_lt 32 b && (nat_lt b 127 && not (eqb b 92))

abbrev pub escaped : ℕ → List ℕ
escaped b = 92 ∷ three_digits b

abbrev pub printable_byte : ℕ → List ℕ
printable_byte b = if is_printable b then b ∷ [] else escaped b

abbrev pub printable_bytes : List ℕ → List ℕ
printable_bytes bs = flat_map printable_byte bs

-- a name; an empty one is a NUL
abbrev pub printable_name : List ℕ → List ℕ
printable_name [] = printable_byte 0
printable_name (b ∷ bs) = printable_bytes (b ∷ bs)
