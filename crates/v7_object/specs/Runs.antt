-- What v7-object does with its arguments: what it opens, reads and stores, what it writes, and its status.
--
-- The system is asked whether the output is the listing before a file is opened, and a file is stored only if the listing has no
-- mistake. If memory runs out, that is the answer; it does so after a file was to be stored only if it was not stored.
use Rattle.std.specs.{Prelude.{◌≡◌, ◌⊎◌, ℕ, Bool, codes, if◌then◌else◌, List, [], ◌∷◌, Option, Some, None, Result, Ok, Err}, Borrow.Bor}
use Rattle.aout_core.specs.{Contents.Contents, Refusals.refused, Words.letter_of}
use Rattle.listings.specs.{Columns.says_something, Reading.read, Reading.Mistakes, declared.draft.Addresses.Addresses}
use Rattle.listings.specs.declared.draft.Addresses.TheVariants.{Compared, Computed}
use Rattle.host.specs.{Answers.{FindsOr, IsPerformed, only_errors}, Programs.{AnswersGiven, Quietly, Reads, Step, Stores, Then}}
use Rattle.host.specs.{Answer.Answer, Arguments.{Given, has_letter, if_given, given_in}, Events.{Surroundings, stored}}
use Rattle.host.specs.{Nodes.ChecksOutput, declared.answer.Fault.TheVariants.Memory, declared.reasons.Reason.Reason}
use Rattle.host.specs.declared.reasons.Reason.TheVariants.{NotTwoFiles}

-- what the arguments ask for: to make the file of a listing at a path
pub record Call : Type 0 where
  pub addresses : Addresses
  pub listing : List ℕ
  pub to : List ℕ

-- two paths
abbrev pub making_of : Addresses → List (List ℕ) → Result Call Reason
making_of addresses (listing ∷ to ∷ []) = Ok (record { addresses = addresses; listing = listing; to = to })
making_of addresses _ = Err NotTwoFiles

-- with -n addresses are computed
abbrev pub addresses_in : Given → Addresses
addresses_in given = if has_letter given.letters (letter_of (codes "n")) then Computed else Compared

abbrev pub making_in : Given → Result Call Reason
making_in given = making_of (addresses_in given) given.paths

-- the same as the code has them
abbrev pub result_in : Result (Addresses × Bor (List ℕ) × Bor (List ℕ)) Reason → Result Call Reason
result_in (Ok made) = Ok (record { addresses = made.0; listing = made.1.now; to = made.2.now })
result_in (Err reason) = Err reason

abbrev pub making_asked : List (List ℕ) → Result Call Reason
making_asked words = if_given (given_in (codes "n") [] words) making_in

-- ---- the file of a listing

-- one that has no line but comments has none
abbrev pub file_if : Bool → Result Contents Mistakes → Option Contents
file_if says (Ok file) = if says then Some file else None
file_if says (Err mistakes) = None

abbrev pub file_in : Addresses → List ℕ → Option Contents
file_in addresses text = file_if (says_something text) (read addresses text)

-- a file is stored, once there is memory for the answer
abbrev pub IsStoring : List ℕ → Contents → Step Answer
IsStoring to file old new result =
    ((new ≡ old) × (result ≡ Err (Memory refused))) ⊎ Stores (stored to file) (only_errors [] 0) old new result

-- the most bytes of a listing that is read
abbrev pub most_bytes : ℕ
most_bytes = 16777216

-- the output is refused, or else the listing is read, and its file stored if it has no mistake
abbrev pub IsMaking : Call → Step Answer
IsMaking call =
    Then (ChecksOutput call.listing call.to) (λ _.
    Then (Reads most_bytes call.listing) (λ bytes.
    Then (Quietly (FindsOr (file_in call.addresses bytes))) (λ file.
    IsStoring call.to file)))

-- what the arguments ask for is done, and its answer is written
abbrev pub PerformsObject : {W E : Type 0} → (W → Option (List ℕ)) → (E → Option (List ℕ)) → List (List ℕ) →
    Surroundings W E → Surroundings W E → ℕ → Type 0
PerformsObject contents error_contents words before after status =
    IsPerformed contents error_contents (AnswersGiven IsMaking making_asked words) before after status
