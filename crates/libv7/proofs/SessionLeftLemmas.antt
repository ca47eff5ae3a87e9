-- What calls on a session that is kept leave, by what the library returned.
use Rattle.std.proofs.Common.{◌≡◌, ◌≢◌, ℕ, List, Option, Some, None, Result, Ok, Err}
use Rattle.std.specs.{Prelude.{IfOk, IfErr, IsOk, OnOk, OnErr, Vec}, declared.alloc.Global.Global}
use Rattle.aout_core.specs.Refusals.{refused}
use Rattle.link_session.specs.Undo.{Kept}
use Rattle.libv7.specs.{declared.cause.Cause.TheVariants.Memory, declared.cause.Cause.Cause, declared.cause.Refusal.Refusal}
use Rattle.libv7.specs.{declared.output.LinkOutput.LinkOutput, SessionAnswers.{HasJournal, MayRunOutToLink, kept_run, shown_in}}
use Rattle.libv7.specs.RunAnswers.{RunOutput, results_of}
use Rattle.libv7.specs.SessionLeft.{Keeps, LeavesChange, LeavesShown, LinkMayRunOut, kept_in, of_session}
use Rattle.libv7.specs.Left.{IsGiven, Left, Unplaced, bytes_left, bytes_or, done_by, of_none, refusal_in}
use Rattle.libv7.specs.{RunLeft.{results_or, unread}, declared.requests.Request.Request}
use Rattle.libv7.proofs.{LeftLemmas.refusal_by, RunLemmas.unread_refused}

pub change_left : {A B : Type 0} (asked : Result A Refusal) (MayRunOut : Type 0) (Changes : Option Kept → Option Kept → Type 0)
    (old new : Option Kept) (l : Left (List ℕ)) (r : Result B Refusal) → l ≡ done_by (refusal_in r) → OnOk r (Changes old new) →
    IfErr r (λ refusal. refusal.cause ≢ Memory refused → asked ≡ Err refusal) →
    IfErr r (λ refusal. refusal.cause ≡ Memory refused → (refusal.place ≡ 0) × MayRunOut) → OnErr r (new ≡ old) →
    LeavesChange asked MayRunOut Changes old new l
change_left asked MayRunOut Changes old new l (Ok x) is ok err memory unchanged = record { refusal = None; made = ok; is = is }
change_left asked MayRunOut Changes old new l (Err refusal) is ok err memory unchanged =
    record { refusal = Some refusal; made = (unchanged, refusal_by asked (Unplaced MayRunOut) refusal err memory); is = is }

pub state_shown : (kept : Option Kept) (room : List ℕ) (l : Left (List ℕ)) (r : Result (Vec ℕ Global) Refusal) → l ≡ bytes_left room (bytes_or r) →
    IfOk r (λ state. of_session shown_in kept ≡ Ok state.items) →
    IfErr r (λ refusal. refusal.cause ≢ Memory refused → of_session shown_in kept ≡ Err refusal) →
    IfErr r (λ refusal. refusal.cause ≡ Memory refused → (refusal.place ≡ 0) × IsOk (of_session shown_in kept)) →
    IfOk r (λ state. Keeps HasJournal kept) → LeavesShown kept room l
state_shown kept room l (Ok state) is ok err memory journal = record { answer = Ok state.items; given = ok; journal = journal; is = is }
state_shown kept room l (Err refusal) is ok err memory journal =
    record {
      answer = Err refusal;
      given = refusal_by (of_session shown_in kept) (Unplaced (IsOk (of_session shown_in kept))) refusal err memory;
      journal = tt;
      is = is;
    }

module _ (kept : Option Kept) (q : Request) (size : ℕ) where
  abbrev pub run : Result RunOutput Refusal
  run = of_session (kept_run q.wants q.options q.entry.now) kept

  pub link_refused : (r : Refusal) → unread 3 q size ≡ None → (r.cause ≢ Memory refused → run ≡ Err r) →
      (r.cause ≡ Memory refused → (r.place ≡ 0) × Keeps (MayRunOutToLink q.options q.entry.now) kept) →
      IsGiven (kept_in kept q size) (Unplaced (LinkMayRunOut kept q size)) (Err r)
  link_refused r known err memory =
      refusal_by (kept_in kept q size) (Unplaced (LinkMayRunOut kept q size)) r (λ other. rw known (err other))
      (λ out. ((memory out).0, (known, (memory out).1)))

  pub link_unread : (r : Refusal) (cause : Cause) → unread 3 q size ≡ Some cause → r ≡ of_none cause →
      IsGiven (kept_in kept q size) (Unplaced (LinkMayRunOut kept q size)) (Err r)
  link_unread r cause is same = unread_refused 3 q size run (Unplaced (LinkMayRunOut kept q size)) r cause is same

pub ruleset by_link = (link_refused, link_unread)
