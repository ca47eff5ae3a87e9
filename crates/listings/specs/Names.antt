-- Names in bytes that print, as they are read.
--
-- A byte that prints is itself, except the blank and the backslash. A backslash and three octal digits are any byte.
use Rattle.std.specs.Prelude.{ℕ, ◌+◌, ◌-◌, ◌*◌, nat_lt, eqb, if◌then◌else◌, List, [], ◌∷◌, ◌++◌, length, take, Result, Ok, Err}
use Rattle.aout_core.specs.Names.{before_nul}
use Rattle.listings.specs.{declared.fault.Reason.Reason, declared.fault.Reason.TheVariants.{Missing, BadName, LongName}, Octal.is_digit}
use Rattle.texts.specs.Names.{is_printable}

-- the bytes of a name, after those of `out`; `left` digits of an escaped byte are still to come, and those before them make `sum`
abbrev pub bytes_from : List ℕ → ℕ → ℕ → List ℕ → Result (List ℕ) Reason
bytes_from out left sum [] = if eqb left 0 then Ok out else Err BadName
bytes_from out left sum (b ∷ bs) =
    if eqb left 0
    then (if eqb b 92 then bytes_from out 3 0 bs else (if is_printable b then bytes_from (out ++ b ∷ []) 0 0 bs else Err BadName))
    else (if is_digit b
    then (if nat_lt (8 * sum + (b - 48)) 256
    then (if eqb left 1 then bytes_from (out ++ (8 * sum + (b - 48)) ∷ []) 0 0 bs else bytes_from out (left - 1) (8 * sum + (b - 48)) bs)
    else Err BadName)
    else Err BadName)

abbrev pub cut_name : List ℕ → List ℕ
cut_name bytes = take 8 (before_nul bytes)

-- at most eight bytes, and nothing after a NUL
abbrev pub whole_name : List ℕ → Result (List ℕ) Reason
whole_name bytes =
    if nat_lt 8 (length bytes) then Err LongName
    else (if nat_lt (1 + length (cut_name bytes)) (length bytes) then Err BadName else Ok (cut_name bytes))

abbrev pub whole_if : Result (List ℕ) Reason → Result (List ℕ) Reason
whole_if (Ok bytes) = whole_name bytes
whole_if (Err e) = Err e

-- the name in a column
abbrev pub name_of : List ℕ → Result (List ℕ) Reason
name_of [] = Err Missing
name_of (b ∷ bs) = whole_if (bytes_from [] 0 0 (b ∷ bs))
