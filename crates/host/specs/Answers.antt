-- What a program answers, and what of it goes out. In which words it speaks of faults and of itself, no definition says.
use Rattle.std.specs.Prelude.{◌≡◌, ◌⊎◌, ℕ, Bool, true, false, List, [], if◌then◌else◌, ◌∷◌, Option, Some, None, Result, Ok, Err, bytes_eq, codes}
use Rattle.std.specs.Option.{option_or}
use Rattle.aout_core.specs.{Refusals.refused, Wires.Latched}
use Rattle.host.specs.{declared.shown.Shown.Shown, declared.shown.Shown.TheVariants.Help, declared.shown.Shown.TheVariants.Version}
use Rattle.host.specs.{Emits.PutsUnless, declared.answer.Fault.Fault, declared.answer.Fault.TheVariants.Answered}
use Rattle.host.specs.{declared.answer.Fault.TheVariants.Memory, Answer.Answer, Events.History, Events.Surroundings}

-- nothing but these lines on standard error
abbrev pub only_errors : List ℕ → ℕ → Answer
only_errors errors status = record { output = []; errors = errors; status = status }

-- ---- statuses

-- an answer of this status, with nothing for standard output
pub record Ends (status : ℕ) (a : Answer) : Type 0 where
  pub no_output : a.output ≡ []
  pub has_status : a.status ≡ status

-- such an answer, which there is only if the test holds; or memory ran out
abbrev pub Stops : Bool → ℕ → Fault → Type 0
Stops test status (Answered a) = (test ≡ true) × Ends status a
Stops test status (Memory _) = Unit {0}

-- if the test holds that is refused, with this status
abbrev pub Refuses : ℕ → Bool → Result (Unit {0}) Fault → Type 0
Refuses status test (Ok x) = test ≡ false
Refuses status test (Err fault) = Stops test status fault

abbrev pub is_none : {A : Type 0} → Option A → Bool
is_none None = true
is_none (Some x) = false

-- this is found, or nothing, which is refused with the status 1
abbrev pub FindsOr : {A : Type 0} → Option A → Result A Fault → Type 0
FindsOr found (Ok x) = found ≡ Some x
FindsOr found (Err fault) = Stops (is_none found) 1 fault

-- an answer of this status, or memory ran out for it
abbrev pub EndsOr : ℕ → Result Answer Fault → Type 0
EndsOr status (Ok a) = Ends status a
EndsOr status (Err fault) = Stops false status fault

-- an answer, or memory ran out for it
abbrev pub AnswersOr : Result Answer Fault → Answer → Type 0
AnswersOr result answer = (result ≡ Ok answer) ⊎ (result ≡ Err (Memory refused))

-- ---- what a program shows of itself

-- what an argument asks a program to show of itself
abbrev pub shown_by : List ℕ → Option Shown
shown_by word = if bytes_eq word (codes "--help") then Some Help else (if bytes_eq word (codes "--version") then Some Version else None)

-- what the first argument asks that asks for something, before `--`
abbrev pub shown_in : List (List ℕ) → Option Shown
shown_in [] = None
shown_in (word ∷ words) = if bytes_eq word (codes "--") then None else option_or (shown_by word) (shown_in words)

-- something is shown, or memory ran out for it
abbrev pub Shows : Result Answer Fault → Type 0
Shows (Ok a) = (a.errors ≡ []) × (a.status ≡ 0)
Shows (Err fault) = Stops false 0 fault

-- help or the version is shown, which an argument asks for, and nothing is asked of the system; or the rest is done
abbrev pub IsShownOr : Option Shown → History → History → Result Answer Fault → Type 0 → Type 0
IsShownOr (Some shown) old new result rest = (new ≡ old) × Shows result
IsShownOr None old new result rest = rest

-- ---- what goes out

-- the answer of a program, which a fault may have too; there is none if memory ran out for it
abbrev pub answer_in : Result Answer Fault → Option Answer
answer_in (Ok answer) = Some answer
answer_in (Err (Answered answer)) = Some answer
answer_in (Err (Memory _)) = None

abbrev pub output_in : Option Answer → List ℕ
output_in None = []
output_in (Some answer) = answer.output

-- the status, if standard output failed or did not
abbrev pub status_in : Bool → Option Answer → ℕ
status_in failed None = 2
status_in failed (Some answer) = if failed then 2 else answer.status

-- the answer went out, but for what a device did not take; if standard output failed, standard error has another text
pub record Gives {W E : Type 0} (contents : W → Option (List ℕ)) (error_contents : E → Option (List ℕ)) (found : Option Answer)
    (output new_output : Latched W) (error new_error : Latched E) (status : ℕ) : Type 0 where
  pub written : PutsUnless new_output.has_failed (contents output.device) (contents new_output.device) (output_in found)
  pub reported : (answer : Answer) → found ≡ Some answer → new_output.has_failed ≡ false →
      PutsUnless new_error.has_failed (error_contents error.device) (error_contents new_error.device) answer.errors
  pub ends : status ≡ status_in new_output.has_failed found

-- a program does this, and its answer goes out
abbrev pub IsPerformed : {W E : Type 0} → (W → Option (List ℕ)) → (E → Option (List ℕ)) →
    (History → History → Result Answer Fault → Type 0) → Surroundings W E → Surroundings W E → ℕ → Type 0
IsPerformed contents error_contents Does before after status =
    (result : Result Answer Fault) × Does before.asked after.asked result
    × Gives contents error_contents (answer_in result) before.output after.output before.error after.error status
