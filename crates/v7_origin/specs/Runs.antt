-- What v7-origin does with its arguments: what it opens, reads and stores, when it says that all of a program is found, and its status.
--
-- All files are read, and the system is asked whether the output is one of them, before one is judged. In which words something is said, and
-- what else is found, no definition says: the search may miss an order, but it does not claim a wrong one.
use Rattle.std.specs.Prelude.{◌≡◌, ◌⊎◌, ℕ, Bool, true, false, ◌&&◌, ◌||◌, ◌*◌, eqb, if◌then◌else◌, codes, List, [], ◌∷◌, ◌++◌, length, map, not, is_err}
use Rattle.std.specs.Prelude.{Option, Some, None, Result, Ok, Err}
use Rattle.aout_core.specs.{Contents.Contents, Decoding.decode, Refusals.refused, Words.letter_of}
use Rattle.aout_core.specs.{declared.file.ReadFault.ReadFault, declared.symbol.Symbol.Symbol}
use Rattle.link_out.specs.Inputs.{object_in}
use Rattle.host.specs.{Answers.{IsPerformed, Stops, is_none}, Answer.Answer, Arguments.{Given, given_in, has_letter, if_given, value_of}}
use Rattle.host.specs.{Events.{History, Surroundings, stored}, Programs.{AnswersGiven, Step, Stores, Then}, Nodes.ChecksOutput}
use Rattle.host.specs.{Sources.{EndsBroken, EndsReading, ReadsAt, ReadsFront}, declared.answer.Fault.Fault, declared.reasons.Reason.Reason}
use Rattle.host.specs.declared.answer.Fault.TheVariants.{Memory}
use Rattle.host.specs.declared.reasons.Reason.TheVariants.{Needs, NoFile}
use Rattle.v7_origin.specs.{Whole.IsWhole, Whole.Source, declared.reading.PathFrom.PathFrom}
use Rattle.v7_origin.specs.declared.reading.PathFrom.TheVariants.{Arguments, Folder}

-- ---- arguments

abbrev pub out_of : Given → Option (List ℕ)
out_of given = value_of given (letter_of (codes "o"))

-- -a is for -o
abbrev pub refusal_by : Given → List (List ℕ) → Option Reason
refusal_by given [] = Some NoFile
refusal_by given (program ∷ objects) =
    if has_letter given.letters (letter_of (codes "a")) && is_none (out_of given)
    then Some (Needs (letter_of (codes "a")) (letter_of (codes "o"))) else None

abbrev pub refusal_of : Given → Option Reason
refusal_of given = refusal_by given given.paths

abbrev pub given_unless : Given → Option Reason → Result Given Reason
given_unless given None = Ok given
given_unless given (Some reason) = Err reason

abbrev pub call_in : Given → Result Given Reason
call_in given = given_unless given (refusal_of given)

abbrev pub call_asked : List (List ℕ) → Result Given Reason
call_asked words = if_given (given_in (codes "aq") (codes "oR") words) call_in

-- ---- reading

-- the same is done at each path, with what was found at those before it
abbrev pub Each : {A : Type 0} → (List ℕ → A → Step A) → List (List ℕ) → A → Step A
Each Does [] so old new result = (new ≡ old) × (result ≡ Ok so)
Each Does (path ∷ paths) so old new result = Then (Does path so) (Each Does paths) old new result

abbrev pub source_of : List ℕ → List ℕ → Source
source_of path bytes = record { path = path; bytes = bytes }

-- the most bytes of a file that is read
abbrev pub most_bytes : ℕ
most_bytes = 16777216

-- a file of the arguments is read whole; of one that a walk found these are the first bytes
abbrev pub ReadsFor : PathFrom → History → History → List ℕ → List ℕ → Type 0
ReadsFor Arguments = ReadsAt
ReadsFor Folder = ReadsFront 327690

abbrev pub EndsFor : PathFrom → History → History → List ℕ → Fault → Type 0
EndsFor Arguments = EndsReading most_bytes
EndsFor Folder = EndsBroken

-- of the files that a walk found only objects are taken
abbrev pub is_taken : PathFrom → List ℕ → Bool
is_taken Arguments bytes = true
is_taken Folder bytes = not (is_err (object_in (decode bytes)))

abbrev pub taken : PathFrom → List ℕ → List ℕ → List Source
taken from path bytes = if is_taken from bytes then source_of path bytes ∷ [] else []

-- a file is read, and taken after others; or it can't be read
abbrev pub Takes : PathFrom → List ℕ → List Source → Step (List Source)
Takes from path so old new (Ok more) = (bytes : List ℕ) × ReadsFor from old new path bytes × (more ≡ so ++ taken from path bytes)
Takes from path so old new (Err fault) = EndsFor from old new path fault

-- the output is none of the files at these paths
abbrev pub ChecksEach : List ℕ → List (List ℕ) → Step (Unit {0})
ChecksEach out paths = Each (λ path _. ChecksOutput path out) paths tt

abbrev pub ChecksOut : Option (List ℕ) → List (List ℕ) → Step (Unit {0})
ChecksOut None paths old new result = (new ≡ old) × (result ≡ Ok tt)
ChecksOut (Some out) paths old new result = ChecksEach out paths old new result

-- ---- which files are refused

-- an overlay, or a file with relocation
abbrev pub is_no_program : Contents → Bool
is_no_program c = eqb c.header.magic 0o405 || eqb c.header.flag 0

abbrev pub no_program : Result Contents ReadFault → Bool
no_program (Err fault) = true
no_program (Ok c) = is_no_program c

-- these have to be objects
abbrev pub any_refused : List Source → Bool
any_refused [] = false
any_refused (source ∷ sources) = is_err (object_in (decode source.bytes)) || any_refused sources

-- the first has to be a program, and the others objects
abbrev pub are_refused : List Source → Bool
are_refused [] = true
are_refused (source ∷ sources) = no_program (decode source.bytes) || any_refused sources

-- ---- what was found

-- the status is 0 only if a link of some of the files is the program; with -q nothing is written
pub record IsFound (given : Given) (program : Contents) (sources : List Source) (a : Answer) : Type 0 where
  pub ends : (a.status ≡ 0) ⊎ (a.status ≡ 1)
  pub whole : a.status ≡ 0 → IsWhole program sources
  pub quiet : has_letter given.letters (letter_of (codes "q")) ≡ true → a.output ≡ []
  pub no_errors : a.errors ≡ []

-- the first file is the program
abbrev pub IsProgram : List Source → Contents → Type 0
IsProgram [] program = ⊥
IsProgram (source ∷ sources) program = decode source.bytes ≡ Ok program

-- the file with these symbols: of the header the symbol size alone is another
abbrev pub with_symbols : Contents → List Symbol → Contents
with_symbols c rows = record c { header = record c.header { symbol_size = 12 * length rows }; symbols = rows }

-- that is the answer; with -o the program is stored with other symbols
abbrev pub Ends : Option (List ℕ) → Contents → Answer → Step Answer
Ends None program a old new result = (new ≡ old) × (result ≡ Ok a)
Ends (Some out) program a old new result = (rows : List Symbol) × Stores (stored out (with_symbols program rows)) a old new result

-- the files are refused with the status 2, or what is found is the answer
abbrev pub Judges : Given → List Source → Step Answer
Judges given sources old new result =
    ((fault : Fault) × (new ≡ old) × Stops (are_refused sources) 2 fault × (result ≡ Err fault))
    ⊎ ((program : Contents) × (a : Answer) × (are_refused sources ≡ false) × IsProgram sources program × IsFound given program sources a
    × Ends (out_of given) program a old new result)

-- ---- the program

-- without -R no path is found in a folder; which are found with it is only tested
abbrev pub AreFoundIn : Option (List ℕ) → List (List ℕ) → Type 0
AreFoundIn None found = found ≡ []
AreFoundIn (Some folder) found = Unit {0}

-- the files of the arguments are read, then those that were found, and the output is checked before one is judged
abbrev pub FindsAmong : Given → List (List ℕ) → Step Answer
FindsAmong given found =
    Then (Each (Takes Arguments) given.paths []) (λ named.
    Then (Each (Takes Folder) found named) (λ sources.
    Then (ChecksOut (out_of given) (map (λ s. s.path) sources)) (λ _. Judges given sources)))

abbrev pub IsOrigin : Given → Step Answer
IsOrigin given old new result =
    ((new ≡ old) × (result ≡ Err (Memory refused)))
    ⊎ ((found : List (List ℕ)) × AreFoundIn (value_of given (letter_of (codes "R"))) found × FindsAmong given found old new result)

-- what the arguments ask for is done, and its answer is written
abbrev pub PerformsOrigin : {W E : Type 0} → (W → Option (List ℕ)) → (E → Option (List ℕ)) → List (List ℕ) →
    Surroundings W E → Surroundings W E → ℕ → Type 0
PerformsOrigin contents error_contents words before after status =
    IsPerformed contents error_contents (AnswersGiven IsOrigin call_asked words) before after status
