-- What a call asks of a link: options as bits, the name of the entry point, and the forced names. (ld(1); the bits: own choice)
--
-- A forced name is eight bytes, filled up with NULs, as in a file. The entry point is a name of at most eight bytes; no bytes ask
-- for none.
use Rattle.std.specs.Prelude.{ℕ, zero, suc, ◌+◌, ◌%◌, ◌/◌, cond, eqb, nat_lt, if◌then◌else◌, List, [], ◌∷◌, take, drop, length, Option}
use Rattle.std.specs.Prelude.{Some, None, ok_or, Result, Ok, Err}
use Rattle.aout_core.specs.Names.{before_nul}
use Rattle.link_out.specs.Steps.{and_then}
use Rattle.tool_options.specs.{ForcedNames.takes, ForcedNames.with_name, declared.flags.Flags.Flags, Choices.Choices, Flags.choices_of}
use Rattle.libv7.specs.declared.cause.Cause.TheVariants.{NoOption, Excluded, LongName, CutNames, ManyNames}
use Rattle.libv7.specs.{declared.cause.Cause.Cause, declared.cause.Refusal.Refusal, FileAnswers.has_bit}

-- 1: -r, 2: -s, 4: -x, 8: -X, 16: -n, 32: -i, 64: -d
abbrev pub flags_in : ℕ → Flags
flags_in bits = record {
  relocatable = has_bit bits 1;
  strip = has_bit bits 2;
  externals = has_bit bits 4;
  not_l = has_bit bits 8;
  pure = has_bit bits 16;
  split = has_bit bits 32;
  commons = has_bit bits 64;
}

-- the first eight bytes, and what is after a NUL left away
abbrev pub name_of : List ℕ → List ℕ
name_of bytes = take 8 (before_nul bytes)

abbrev pub entry_of : List ℕ → Option (List ℕ)
entry_of [] = None
entry_of (b ∷ bs) = Some (name_of (b ∷ bs))

-- first the bits, then options that exclude each other, then the name
abbrev pub choices_in : ℕ → List ℕ → Result Choices Cause
choices_in bits entry =
    if nat_lt 127 bits then Err NoOption
    else and_then (ok_or (choices_of (flags_in bits) (entry_of entry)) Excluded) (λ o. if nat_lt 8 (length entry) then Err LongName else Ok o)

-- so many names of eight bytes each appended to those before them, if they are not there already; the next one has this number
abbrev pub with_names : ℕ → ℕ → List (List ℕ) → List ℕ → Result (List (List ℕ)) Refusal
with_names zero number names bytes = Ok names
with_names (suc n) number names bytes =
    cond (takes names (name_of (take 8 bytes)))
    (with_names n (number + 1) (with_name names (name_of (take 8 bytes))) (drop 8 bytes))
    (Err (record { cause = ManyNames; place = number }))

abbrev pub forced_in : List ℕ → Result (List (List ℕ)) Refusal
forced_in bytes =
    if eqb (length bytes % 8) 0 then with_names (length bytes / 8) 0 [] bytes else Err (record { cause = CutNames; place = 0 })
