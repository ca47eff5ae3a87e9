-- Where a branch goes, and the number of an operand word. (as(1))
use Rattle.std.specs.Prelude.{ℕ, ◌+◌, ◌-◌, ◌*◌, ◌%◌, nat_lt, if◌then◌else◌, Option, Some, None}

-- the number of an operand word; an operand without a word has 0
abbrev pub number : Option ℕ → ℕ
number None = 0
number (Some n) = n

-- offsets in words from the address after the first word: from -128 to 127, and backwards
abbrev pub branch_target : ℕ → ℕ → ℕ
branch_target address v = (address + 2 + 2 * v + (if nat_lt v 0o200 then 0 else 0o177000)) % 0o200000

abbrev pub branch_back_target : ℕ → ℕ → ℕ
branch_back_target address v = (address + 0o400002 - 2 * v) % 0o200000
