-- Numbers in octal: the last six or three digits, or all with no zeros in front. Decimal numbers are those of std.
use Rattle.std.specs.{Prelude.{ℕ, ◌+◌, ◌/◌, ◌%◌, false, List, [], ◌∷◌}, Fmt.digits}

-- the last octal digit
abbrev pub digit : ℕ → ℕ
digit n = 48 + n % 8

-- the last six octal digits
unfoldable pub six_digits : ℕ → List ℕ
six_digits n = digit (n / 32768) ∷ digit (n / 4096) ∷ digit (n / 512) ∷ digit (n / 64) ∷ digit (n / 8) ∷ digit n ∷ []

-- the last three octal digits
abbrev pub three_digits : ℕ → List ℕ
three_digits n = digit (n / 64) ∷ digit (n / 8) ∷ digit n ∷ []

-- in octal, with no zeros in front; 0 has one digit
abbrev pub octal : ℕ → List ℕ
octal n = digits 8 false n
