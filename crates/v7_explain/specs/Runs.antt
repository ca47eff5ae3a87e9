-- What v7-explain does with its arguments: what it opens, reads and stores, in order, and its status.
--
-- Each file is read and explained before the next one is opened. The answer has what is shown of each, in order, and the largest status.
-- If memory runs out, that is the answer, and nothing was stored.
use Rattle.std.specs.Prelude.{◌≡◌, ◌≢◌, ◌⊎◌, ℕ, ◌≤◌, true, eqb, List, [], ◌∷◌, map, Option, Result, Ok, Err, codes, is_err, if◌then◌else◌}
use Rattle.std.specs.Prelude.{string_bytes}
use Rattle.aout_core.specs.{Decoding.decode, Refusals.refused}
use Rattle.command_words.specs.Calls.{AsksForNone, IsAsked, IsWhole, dashes_in, files_of}
use Rattle.command_words.specs.{declared.words.Call.Call as LinkCall, declared.words.Call.TheVariants.Ld}
use Rattle.command_words.specs.declared.fault.WordsFault.TheVariants.{Usage}
use Rattle.link_out.specs.Inputs.{object_in}
use Rattle.host.specs.{Answers.{AnswersOr, EndsOr, IsPerformed, only_errors}, Events.{History, Surroundings, written}}
use Rattle.host.specs.Programs.{AnswersGiven, CallsOr, Quietly, Reads, Step, Stores, Then, either}
use Rattle.host.specs.{Sources.{EndsReading, ReadsAt, ReadsFront}, Answer.Answer, Nodes.ChecksOutput, declared.answer.Fault.Fault}
use Rattle.host.specs.declared.answer.Fault.TheVariants as faults
use Rattle.v7_explain.specs.Calls.{Call, ask, asked_in, explain, map_link, store, walk, words_of_link}
use Rattle.v7_explain.specs.{Files.{AnswersAt, GivesOr, HasStatus, IsSaid, joined, most_bytes, nothing_said}, declared.explaining.Mode.Mode}
use Rattle.v7_explain.specs.declared.explaining.Mode.TheVariants.{Listing, Inventory}

-- ---- one file

-- a fault that has an answer is one
abbrev pub said_of : Fault → Result Answer Fault
said_of (faults.Answered a) = Ok a
said_of (faults.Memory r) = Err (faults.Memory r)

-- the file at a path is read, and this is said of its bytes; or it is not read, and the answer says so, with the status 2
abbrev pub Answers : (History → History → List ℕ → List ℕ → Type 0) → (List ℕ → Answer → Type 0) → List ℕ → Step Answer
Answers ReadsBy Says path old new result =
    ((bytes : List ℕ) × ReadsBy old new path bytes × GivesOr (Says bytes) result)
    ⊎ ((fault : Fault) × EndsReading most_bytes old new path fault × (result ≡ said_of fault))

-- an inventory reads the front of a file: one byte more than others are read of
abbrev pub ReadsFor : Mode → History → History → List ℕ → List ℕ → Type 0
ReadsFor Inventory old new path bytes = ReadsFront 8389505 old new path bytes
ReadsFor _ old new path bytes = ReadsAt old new path bytes

abbrev pub Explains : Mode → List ℕ → Step Answer
Explains mode path = Answers (ReadsFor mode) (λ bytes. IsSaid mode bytes (decode bytes)) path

-- what an inventory does not open: a device, a FIFO or a socket, or a path that is not UTF-8, with the status 2
abbrev pub IsUnopened : Answer → Type 0
IsUnopened a = (a.status ≡ 0) ⊎ (a.status ≡ 2)

abbrev pub ExplainsAt : Mode → List ℕ → Step Answer
ExplainsAt mode path old new result =
    Explains mode path old new result ⊎ ((mode ≡ Inventory) × (new ≡ old) × GivesOr IsUnopened result)

-- ---- one after another

-- after one answer there are others, or memory ran out for it, or for all together
abbrev pub Follows : (Answer → Type 0) → History → History → Result Answer Fault → Result Answer Fault → Type 0
Follows Others between new (Ok more) result = ((new ≡ between) × (result ≡ Err (faults.Memory refused))) ⊎ Others more
Follows Others between new (Err fault) result = (new ≡ between) × (result ≡ Err fault)

-- what is done at each path is answered, after what was said before
abbrev pub IsEach : (List ℕ → Step Answer) → List (List ℕ) → Answer → Step Answer
IsEach Does [] said old new result = (new ≡ old) × AnswersOr result said
IsEach Does (path ∷ paths) said old new result =
    (one : Result Answer Fault) × (between : History) × Does path old between one
    × Follows (λ more. IsEach Does paths (joined said more) between new result) between new one result

-- the files of a walk are found before the first is opened, and then a line of an inventory is said of each, and one of the totals; or
-- memory runs out
abbrev pub IsWalk : Step Answer
IsWalk old new result =
    ((new ≡ old) × (result ≡ Err (faults.Memory refused)))
    ⊎ ((found : List (List ℕ)) × Then (IsEach (ExplainsAt Inventory) found nothing_said)
    (λ said. Quietly (GivesOr (HasStatus said.status))) old new result)

-- ---- a listing that is stored

-- what is reported without the listing
abbrev pub rest_of : Answer → Answer
rest_of said = only_errors said.errors said.status

-- the listing is stored if there is nothing to report
abbrev pub IsStoring : List ℕ → Answer → Step Answer
IsStoring to said old new result =
    either (eqb said.status 0) (Stores (written to said.output) (rest_of said) old new result)
    ((new ≡ old) × (result ≡ Ok (rest_of said)))

-- the output is refused before anything is opened, or else the file is read, and its listing, with reports, stored once there is memory
-- for it
abbrev pub StoresListing : List ℕ → List ℕ → Step Answer
StoresListing to path =
    Then (ChecksOutput path to) (λ _.
    Then (Reads most_bytes path) (λ bytes.
    Then (Quietly (GivesOr (IsSaid (Listing true) bytes (decode bytes)))) (IsStoring to)))

-- ---- the map of a link

-- 1 if bytes are not an object
abbrev pub status_taken : List ℕ → ℕ
status_taken bytes = if is_err (object_in (decode bytes)) then 1 else 0

abbrev pub Takes : List ℕ → Step Answer
Takes path = Answers ReadsAt (λ bytes. HasStatus (status_taken bytes)) path

-- there is a map if each file is an object, and its status is 0 or 1; else the answer says which are not
abbrev pub EndsMapped : Answer → Result Answer Fault → Type 0
EndsMapped said result = ((said.status ≡ 0) × GivesOr (λ a. a.status ≤ 1) result) ⊎ ((said.status ≢ 0) × (result ≡ Ok said))

-- the files are those that `ld` takes with the same arguments; or memory runs out
abbrev pub IsMapping : List (List ℕ) → Step Answer
IsMapping paths old new result =
    ((new ≡ old) × (result ≡ Err (faults.Memory refused)))
    ⊎ Then (IsEach Takes paths nothing_said) (λ said. Quietly (EndsMapped said)) old new result

abbrev pub MapsCall : LinkCall → Step Answer
MapsCall (Ld options forced out files) old new result = IsMapping (map string_bytes files.items) old new result
MapsCall _ old new result = (new ≡ old) × EndsOr 2 result

abbrev pub link_words : List (List ℕ) → List (List ℕ)
link_words words = codes "ld" ∷ words

-- memory runs out for these arguments, or they ask for no call, or for one that is mapped
abbrev pub MapsWords : List (List ℕ) → Step Answer
MapsWords words old new result =
    ((new ≡ old) × (result ≡ Err (faults.Memory refused)))
    ⊎ (AsksForNone (link_words words) Usage × (new ≡ old) × EndsOr 2 result)
    ⊎ ((call : LinkCall) × IsWhole call × IsAsked (link_words words) call × (dashes_in (link_words words) ≡ dashes_in (files_of call))
    × MapsCall call old new result)

-- ---- the program

-- what the arguments ask for
abbrev pub IsCall : Call → Step Answer
IsCall (explain mode paths) = IsEach (ExplainsAt mode) paths nothing_said
IsCall (walk paths) = IsWalk
IsCall (store to path) = StoresListing to path
IsCall (ask what path) = AnswersAt what path
IsCall (map_link words) = CallsOr MapsWords (words_of_link words)

-- what the arguments ask for is done, and its answer is written
abbrev pub PerformsExplain : {W E : Type 0} → (W → Option (List ℕ)) → (E → Option (List ℕ)) → List (List ℕ) →
    Surroundings W E → Surroundings W E → ℕ → Type 0
PerformsExplain contents error_contents words before after status =
    IsPerformed contents error_contents (AnswersGiven IsCall asked_in words) before after status
