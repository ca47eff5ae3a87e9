-- What a handle keeps for C between calls, and what a call on it leaves.
use Rattle.std.specs.Prelude.{◌≡◌, ℕ, eqb, if◌then◌else◌, List, Option, Some, None, Result, Ok, Err, IsOk, IfOk}
use Rattle.link_session.specs.Undo.{Kept}
use Rattle.libv7.specs.declared.cause.Cause.TheVariants.{NoSession, SessionOpen}
use Rattle.libv7.specs.{declared.cause.Cause.Cause, declared.cause.Refusal.Refusal, declared.output.LinkOutput.LinkOutput, Causes.at}
use Rattle.libv7.specs.SessionAnswers.{AddsBytes, HasJournal, MayRunOutToAdd, MayRunOutToLink, TakesLast, begun_in, kept_run, last_in, shown_in, taken_in}
use Rattle.libv7.specs.RunAnswers.{RunOutput}
use Rattle.libv7.specs.Left.{IsGiven, IsRefusal, Left, Unplaced, bytes_left, done_by, of_none}
use Rattle.libv7.specs.{RunLeft.{answer_left, or_unread, unread, left_in, results_or}, declared.session_handle.Handle.Handle}
use Rattle.libv7.specs.{declared.requests.Request.Request, declared.run.RunAnswer.RunAnswer}

-- what a handle keeps, if a session is begun
abbrev pub kept_by : Handle → Option Kept
kept_by h = if eqb h.is_open 0 then None else h.state.value

-- what there is for a session that is begun, or that none is
abbrev pub of_session : {A : Type 0} → (Kept → Result A Cause) → Option Kept → Result A Refusal
of_session f None = Err (of_none NoSession)
of_session f (Some k) = at 0 (f k)

-- a session is begun, and it is so
abbrev pub Keeps : (Kept → Type 0) → Option Kept → Type 0
Keeps P None = ⊥
Keeps P (Some k) = P k

-- a session is begun before and after, and they are so
abbrev pub Both : (Kept → Kept → Type 0) → Option Kept → Option Kept → Type 0
Both P None after = ⊥
Both P (Some old) None = ⊥
Both P (Some old) (Some new) = P old new

-- ---- changes

-- a change was made, or it was refused and what is kept is as it was
abbrev pub IsChange : {A : Type 0} → Result A Refusal → Type 0 → (Option Kept → Option Kept → Type 0) → Option Kept → Option Kept →
    Option Refusal → Type 0
IsChange asked MayRunOut Changes old new None = Changes old new
IsChange asked MayRunOut Changes old new (Some r) = (new ≡ old) × IsRefusal asked (Unplaced MayRunOut) r

pub record LeavesChange {A : Type 0} (asked : Result A Refusal) (MayRunOut : Type 0) (Changes : Option Kept → Option Kept → Type 0)
    (old new : Option Kept) (l : Left (List ℕ)) : Type 0 where
  pub refusal : Option Refusal
  pub made : IsChange asked MayRunOut Changes old new refusal
  pub is : l ≡ done_by refusal

-- a session begins only if none is begun
abbrev pub beginning : List ℕ → Option Kept → Result Kept Refusal
beginning forced None = begun_in forced
beginning forced (Some k) = Err (of_none SessionOpen)

pub record Begins (forced : List ℕ) (old new : Option Kept) : Type 0 where
  pub session : Kept
  pub none : old ≡ None
  pub begun : begun_in forced ≡ Ok session
  pub is : new ≡ Some session

abbrev pub LeavesBegun : List ℕ → Option Kept → Option Kept → Left (List ℕ) → Type 0
LeavesBegun forced old new l = LeavesChange (beginning forced old) (IsOk (beginning forced old)) (Begins forced) old new l

abbrev pub LeavesAdded : List ℕ → Option Kept → Option Kept → Left (List ℕ) → Type 0
LeavesAdded bytes old new l =
    LeavesChange (of_session (taken_in bytes) old) (Keeps (MayRunOutToAdd bytes) old) (Both (AddsBytes bytes)) old new l

-- for a withdrawal memory does not run out
abbrev pub LeavesWithdrawn : Option Kept → Option Kept → Left (List ℕ) → Type 0
LeavesWithdrawn old new l = LeavesChange (of_session last_in old) ⊥ (Both TakesLast) old new l

-- ---- what is given

pub record LeavesShown (kept : Option Kept) (room : List ℕ) (l : Left (List ℕ)) : Type 0 where
  pub answer : Result (List ℕ) Refusal
  pub given : IsGiven (of_session shown_in kept) (Unplaced (IsOk (of_session shown_in kept))) answer
  pub journal : IfOk answer (λ state. Keeps HasJournal kept)
  pub is : l ≡ bytes_left room answer

-- the link of what is kept, for a caller with a result of this size; neither the objects of what is reported nor a map is known
abbrev pub kept_in : Option Kept → Request → ℕ → Result RunOutput Refusal
kept_in kept q size =
    or_unread (unread 3 q size) (of_session (kept_run q.wants q.options q.entry.now) kept)

abbrev pub LinkMayRunOut : Option Kept → Request → ℕ → Type 0
LinkMayRunOut kept q size = (unread 3 q size ≡ None) × Keeps (MayRunOutToLink q.options q.entry.now) kept

-- a status, and a result before and after the call
pub record LeavesLink (kept : Option Kept) (q : Request) (old new : RunAnswer) (status : ℕ) : Type 0 where
  pub answer : Result LinkOutput Refusal
  pub given : IsGiven (kept_in kept q old.size) (Unplaced (LinkMayRunOut kept q old.size)) (results_or answer)
  pub is : left_in status new ≡ answer_left answer (left_in 0 old)
