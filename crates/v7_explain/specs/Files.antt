-- What v7-explain says of a file, by its bytes: its status, and that a listing reads back as its file.
--
-- The status is 1 if there is something to report. What is said of a file, and in which words, is in no definition.
use Rattle.std.specs.Prelude.{◌≡◌, ℕ, ◌+◌, ◌-◌, ◌*◌, max, Bool, false, ◌&&◌, ◌||◌, if◌then◌else◌, nat_le, nat_lt, bytes_eq}
use Rattle.std.specs.{Prelude.{List, [], ◌∷◌, ◌++◌, take, Option, Some, None, Result, Ok, Err}, List.list_any}
use Rattle.aout_core.specs.{Contents.Contents, Decoding.decode, Addresses.data_start_in, Names.before_nul, WellFormed.first_object_fault}
use Rattle.aout_core.specs.{Refusals.refused, declared.file.ReadFault.ReadFault, declared.header.Header.Header}
use Rattle.aout_core.specs.{declared.object.ObjectFault.ObjectFault, declared.symbol.Symbol.Symbol}
use Rattle.checks.specs.{Found.Found, Suspicions.all_odd, Wrong.is_damaged, declared.evidence.Evidence.Evidence}
use Rattle.listings.specs.{Reading.read, declared.draft.Addresses.TheVariants.Compared}
use Rattle.host.specs.{Answer.Answer, Answers.only_errors, declared.answer.Fault.Fault}
use Rattle.host.specs.declared.answer.Fault.TheVariants as faults
use Rattle.host.specs.Programs.{Quietly, Reads, Step, Then}
use Rattle.v7_explain.specs.declared.explaining.Mode.{Mode}
use Rattle.v7_explain.specs.declared.explaining.Mode.TheVariants.{Listing, Show, Check, Inventory}

-- the most bytes of a file that is read whole: the largest core file has 1,024 bytes and 131,070 blocks of 64
abbrev pub most_bytes : ℕ
most_bytes = 8389504

-- ---- answers

abbrev pub nothing_said : Answer
nothing_said = only_errors [] 0

-- one answer after another; the status is the larger one
abbrev pub joined : Answer → Answer → Answer
joined said more = record { output = said.output ++ more.output; errors = said.errors ++ more.errors; status = max said.status more.status }

abbrev pub HasStatus : ℕ → Answer → Type 0
HasStatus status a = a.status ≡ status

-- an answer of which this holds, or memory runs out for it
abbrev pub GivesOr : (Answer → Type 0) → Result Answer Fault → Type 0
GivesOr Holds (Ok a) = Holds a
GivesOr Holds (Err fault) = fault ≡ faults.Memory refused

-- ---- statuses

-- 1 if anything is found that is sure
abbrev pub status_of : List Found → ℕ
status_of found = if list_any (λ f. f.is_sure) found then 1 else 0

-- 1 if a word makes ld refuse the file
abbrev pub status_in : Option ObjectFault → ℕ
status_in refused = if is_damaged refused then 1 else 0

-- 1 if the file is not an object, or if anything odd in it is sure
abbrev pub status_checked : Evidence → List ℕ → Contents → Option ObjectFault → ℕ
status_checked e bytes c None = status_of (all_odd e false bytes c)
status_checked e bytes c (Some fault) = 1

-- ---- what is said of bytes, which make a file or none

-- a listing of a file reads back as that file
pub record IsListing (c : Contents) (a : Answer) : Type 0 where
  pub again : read Compared a.output ≡ Ok c
  pub has_status : a.status ≡ status_in (first_object_fault c)

abbrev pub IsSaid : Mode → List ℕ → Result Contents ReadFault → Answer → Type 0
IsSaid (Listing is_reported) bytes (Ok c) a = IsListing c a
IsSaid (Listing is_reported) bytes (Err fault) a = HasStatus 1 a
IsSaid (Show view) bytes (Ok c) a = HasStatus (status_in (first_object_fault c)) a
IsSaid (Show view) bytes (Err fault) a = HasStatus 1 a
IsSaid (Check e) bytes (Ok c) a = HasStatus (status_checked e bytes c (first_object_fault c)) a
IsSaid (Check e) bytes (Err fault) a = HasStatus 1 a
IsSaid Inventory bytes read a = HasStatus 0 a

-- ---- what a file is asked for: a symbol, by its name up to the eighth byte, or else an address in octal digits

-- the number of octal digits after those of a sum; no address has more than 33 bits
abbrev pub octal_from : ℕ → List ℕ → Option ℕ
octal_from sum [] = Some sum
octal_from sum (b ∷ bs) = if (nat_le 48 b && nat_lt b 56) && nat_lt sum 0o10000000000 then octal_from (8 * sum + (b - 48)) bs else None

abbrev pub octal_number : List ℕ → Option ℕ
octal_number [] = None
octal_number (b ∷ bs) = octal_from 0 (b ∷ bs)

abbrev pub is_named : List Symbol → List ℕ → Bool
is_named symbols name = list_any (λ (s : Symbol). bytes_eq s.name name) symbols

abbrev pub is_within : ℕ → ℕ → ℕ → Bool
is_within start size address = nat_le start address && nat_lt (address - start) size

-- text, data or bss has the address
abbrev pub has_address : Header → Option ℕ → Bool
has_address h None = false
has_address h (Some address) =
    is_within 0 h.text_size address
    || (is_within (data_start_in h) h.data_size address || is_within (data_start_in h + h.data_size) h.bss_size address)

-- 1 if neither a symbol of this name nor this address is there
abbrev pub status_asked : List ℕ → Result Contents ReadFault → ℕ
status_asked what (Ok c) =
    if is_named c.symbols (take 8 (before_nul what)) || has_address c.header (octal_number what) then 0 else 1
status_asked what (Err fault) = 1

-- the file at a path is read and asked
abbrev pub AnswersAt : List ℕ → List ℕ → Step Answer
AnswersAt what path = Then (Reads most_bytes path) (λ bytes. Quietly (GivesOr (HasStatus (status_asked what (decode bytes)))))
