-- Octal numbers of 16 bits, with any number of digits, as they are read.
use Rattle.std.specs.Prelude.{ℕ, ◌+◌, ◌-◌, ◌*◌, Bool, ◌&&◌, nat_le, nat_lt, if◌then◌else◌, List, [], ◌∷◌, Result, Ok, Err}
use Rattle.listings.specs.{declared.fault.Reason.Reason, declared.fault.Reason.TheVariants.{Missing, NotOctal, TooLarge}}

abbrev pub is_digit : ℕ → Bool
is_digit b = nat_le 48 b && nat_lt b 56

-- the number of these digits after digits that make sum
abbrev pub number_from : ℕ → List ℕ → Result ℕ Reason
number_from sum [] = Ok sum
number_from sum (b ∷ bs) =
    if is_digit b then (if nat_lt (8 * sum + (b - 48)) 65536 then number_from (8 * sum + (b - 48)) bs else Err TooLarge) else Err NotOctal

abbrev pub number : List ℕ → Result ℕ Reason
number [] = Err Missing
number (b ∷ bs) = number_from 0 (b ∷ bs)
