-- The skeleton of programs that read whole files, and then answer or store.
--
-- A program goes step by step. A step may ask the system for something. It finds something, or has a fault, and then no further step
-- is made.
use Rattle.std.specs.Prelude.{◌≡◌, ◌⊎◌, ℕ, Bool, true, false, List, [], ◌∷◌, Result, Ok, Err}
use Rattle.aout_core.specs.Refusals.{refused}
use Rattle.host.specs.{Answers.{EndsOr, IsShownOr, Stops, shown_in}, Answer.Answer, Events.{Event, Extends, History}}
use Rattle.host.specs.{Sources.{EndsReading, ReadsAt, is_kept}, declared.reasons.Reason.Reason, declared.answer.Fault.Fault}
use Rattle.host.specs.{declared.file_system.Stored.Stored, declared.answer.Fault.TheVariants.Memory}

-- what was asked of the system before and after a step, and what it found
abbrev pub Step : Type 0 → Type 1
Step A = History → History → Result A Fault → Type 0

-- a step, and the next one with what it found; or its fault is that of both
abbrev pub Then : {A B : Type 0} → Step A → (A → Step B) → Step B
Then First Next old new result =
    ((fault : Fault) × First old new (Err fault) × (result ≡ Err fault))
    ⊎ ((found : _) × (between : History) × First old between (Ok found) × Next found between new result)

-- the first, if the test holds, and else the second
abbrev pub either : Bool → Type 0 → Type 0 → Type 0
either true first second = first
either false first second = second

-- ---- steps

-- nothing is asked of the system
abbrev pub Quietly : {A : Type 0} → (Result A Fault → Type 0) → Step A
Quietly Holds old new result = (new ≡ old) × Holds result

-- the file at a path is read whole, or is not, as if it has more bytes than this
abbrev pub Reads : ℕ → List ℕ → Step (List ℕ)
Reads most path old new (Ok bytes) = ReadsAt old new path bytes
Reads most path old new (Err fault) = EndsReading most old new path fault

-- the answer once a file was to be stored: this one, or that it was not stored
abbrev pub AnswersStored : Answer → Bool → Result Answer Fault → Type 0
AnswersStored answer true result = result ≡ Ok answer
AnswersStored answer false (Ok other) = ⊥
AnswersStored answer false (Err fault) = Stops true 2 fault

-- a file or a text is stored at a path, and then this is the answer, or it was not stored
abbrev pub Stores : (Stored → Event) → Answer → Step Answer
Stores event answer old new result = (what : Stored) × Extends old new (event what ∷ []) × AnswersStored answer (is_kept what) result

-- ---- the program

-- the call that the arguments ask for is done, or they are refused with the status 2
abbrev pub CallsOr : {C : Type 0} → (C → Step Answer) → Result C Reason → Step Answer
CallsOr Does (Err reason) old new result = (new ≡ old) × EndsOr 2 result
CallsOr Does (Ok call) old new result = Does call old new result

-- the same, once there is memory for the arguments
abbrev pub DoesWords : {C : Type 0} → (C → Step Answer) → Result C Reason → Step Answer
DoesWords Does asked old new result = ((new ≡ old) × (result ≡ Err (Memory refused))) ⊎ CallsOr Does asked old new result

-- what is given by the arguments is shown or done
abbrev pub AnswersGiven : {C : Type 0} → (C → Step Answer) → (List (List ℕ) → Result C Reason) → List (List ℕ) → Step Answer
AnswersGiven Does asked_in words old new result =
    IsShownOr (shown_in words) old new result (DoesWords Does (asked_in words) old new result)
