-- What arguments give a program: letters of options, the values of some of them, and paths.
--
-- An argument that begins with a hyphen has letters of options, in any order with paths. A letter that takes a value is the last one of
-- its argument, comes once, and has the next argument as its value, which does not begin with a hyphen. A hyphen alone is a path, and
-- after `--` all arguments are paths.
use Rattle.std.specs.Prelude.{ℕ, eqb, Bool, true, false, not, ◌&&◌, if◌then◌else◌, codes, List, [], ◌∷◌, ◌++◌, Option, Some, None}
use Rattle.std.specs.{Prelude.{option_map, find, Result, Ok, Err}, List.list_any}
use Rattle.aout_core.specs.Words.{letter_of}
use Rattle.host.specs.declared.reasons.Reason.{Reason}
use Rattle.host.specs.declared.reasons.Reason.TheVariants.{NoOption, NoLongOption, NoValue, SecondValue, Excluded}

-- What was read so far: the letters of options in order, each value with its letter, and the paths. A letter may wait for its value. After
-- `--` the options have ended.
pub record Given : Type 0 where
  pub letters : List ℕ
  pub values : List (ℕ × List ℕ)
  pub paths : List (List ℕ)
  pub waiting : Option ℕ
  pub has_ended : Bool

abbrev pub nothing_given : Given
nothing_given = record { letters = []; values = []; paths = []; waiting = None; has_ended = false }

abbrev pub has_letter : List ℕ → ℕ → Bool
has_letter letters letter = list_any (λ other. eqb other letter) letters

-- ---- one letter

abbrev pub with_letter : Given → ℕ → Given
with_letter g letter = record g { letters = g.letters ++ letter ∷ [] }

-- a letter that takes a value
abbrev pub valued_read : Given → ℕ → Result Given Reason
valued_read g letter =
    if has_letter g.letters letter then Err (SecondValue letter) else Ok (record (with_letter g letter) { waiting = Some letter })

abbrev pub letter_read : List ℕ → List ℕ → Given → ℕ → Result Given Reason
letter_read flags valued g letter =
    if has_letter valued letter then valued_read g letter
    else (if has_letter flags letter then Ok (with_letter g letter) else Err (NoOption letter))

-- a letter after one that waits is not its value
abbrev pub unless_waiting : Option ℕ → Result Given Reason → Result Given Reason
unless_waiting None read = read
unless_waiting (Some letter) read = Err (NoValue letter)

abbrev pub next_letter : List ℕ → List ℕ → Given → ℕ → Result Given Reason
next_letter flags valued g letter = unless_waiting g.waiting (letter_read flags valued g letter)

-- ---- one argument

abbrev pub if_given : {C : Type 0} → Result Given Reason → (Given → Result C Reason) → Result C Reason
if_given (Err reason) next = Err reason
if_given (Ok g) next = next g

abbrev pub letters_read : List ℕ → List ℕ → Given → List ℕ → Result Given Reason
letters_read flags valued g [] = Ok g
letters_read flags valued g (letter ∷ rest) = if_given (next_letter flags valued g letter) (λ h. letters_read flags valued h rest)

abbrev pub with_path : Given → List ℕ → Given
with_path g path = record g { paths = g.paths ++ path ∷ [] }

abbrev pub with_value : Given → ℕ → List ℕ → Given
with_value g letter value = record g { values = g.values ++ (letter, value) ∷ []; waiting = None }

-- what follows a second hyphen: nothing, which ends the options
abbrev pub long_read : Given → List ℕ → Result Given Reason
long_read g [] = Ok (record g { has_ended = true })
long_read g (b ∷ bs) = Err NoLongOption

-- what follows the hyphen of an argument
abbrev pub option_read : List ℕ → List ℕ → Given → List ℕ → Result Given Reason
option_read flags valued g [] = Ok (with_path g (codes "-"))
option_read flags valued g (b ∷ bs) =
    if eqb b (letter_of (codes "-")) then long_read g bs else letters_read flags valued g (b ∷ bs)

-- what follows the hyphen of an option
abbrev pub letters_of : List ℕ → Option (List ℕ)
letters_of [] = None
letters_of (b ∷ bs) = if eqb b (letter_of (codes "-")) then Some bs else None

abbrev pub plain_read : Option ℕ → Given → List ℕ → Given
plain_read None g word = with_path g word
plain_read (Some letter) g word = with_value g letter word

abbrev pub word_by : List ℕ → List ℕ → Given → List ℕ → Option (List ℕ) → Result Given Reason
word_by flags valued g word None = Ok (plain_read g.waiting g word)
word_by flags valued g word (Some letters) = unless_waiting g.waiting (option_read flags valued g letters)

abbrev pub word_read : List ℕ → List ℕ → Given → List ℕ → Result Given Reason
word_read flags valued g word = if g.has_ended then Ok (with_path g word) else word_by flags valued g word (letters_of word)

-- ---- all arguments

abbrev pub words_read : List ℕ → List ℕ → Given → List (List ℕ) → Result Given Reason
words_read flags valued g [] = unless_waiting g.waiting (Ok g)
words_read flags valued g (word ∷ words) = if_given (word_read flags valued g word) (λ h. words_read flags valued h words)

-- what arguments give a program whose options have these letters, without a value and with one
abbrev pub given_in : List ℕ → List ℕ → List (List ℕ) → Result Given Reason
given_in flags valued words = words_read flags valued nothing_given words

-- ---- what was given

abbrev pub value_in : List (ℕ × List ℕ) → ℕ → Option (List ℕ)
value_in values letter = option_map (λ v. v.1) (find (λ v. eqb v.0 letter) values)

abbrev pub value_of : Given → ℕ → Option (List ℕ)
value_of g letter = value_in g.values letter

-- ---- letters that exclude each other

abbrev pub first_in : List ℕ → List ℕ → Option ℕ
first_in set letters = find (λ letter. has_letter set letter) letters

abbrev pub other_in : List ℕ → ℕ → List ℕ → Option ℕ
other_in set first letters = find (λ letter. not (eqb letter first) && has_letter set letter) letters

abbrev pub excluded_after : List ℕ → List ℕ → Option ℕ → Option Reason
excluded_after set letters None = None
excluded_after set letters (Some first) = option_map (Excluded first) (other_in set first letters)

-- of the letters of a set only one may be given: the first of them, and the first other one
abbrev pub excluded_in : List ℕ → Given → Option Reason
excluded_in set g = excluded_after set g.letters (first_in set g.letters)
