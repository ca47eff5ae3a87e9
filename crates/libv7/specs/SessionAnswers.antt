-- What the calls of a session that is kept do to it, and what they give.
--
-- A call that is refused leaves the session as it was. The objects have no labels.
use Rattle.std.specs.Prelude.{◌≡◌, ◌⊎◌, ℕ, List, [], ok_or, Result, Ok, IsOk, IsOkAnd}
use Rattle.aout_core.specs.Contents.{Contents}
use Rattle.link_session.specs.{Edits.last_of, Labelled.Labelled, Labelled.objects, Limits.refusal, Undo.Kept, Undo.IsJournal}
use Rattle.link_session.specs.Sessions.{Adds, Withdraws, nothing_kept}
use Rattle.link_out.specs.{function.Link.link, Steps.and_then, Steps.refused_as, Steps.unless}
use Rattle.tool_options.specs.Choices.{Choices}
use Rattle.libv7.specs.SessionJson.{shown_text}
use Rattle.libv7.specs.{declared.cause.Cause.TheVariants.{NotAdded, NotLinked, NothingKept}, declared.cause.Cause.Cause}
use Rattle.libv7.specs.{declared.cause.Refusal.Refusal, FileAnswers.object_in, LinkRequests.{choices_in, forced_in}}
use Rattle.libv7.specs.{MemoryWanted.HasBody, RunAnswers.{RunOutput, output_with}}

-- a session of no objects with these forced names
abbrev pub begun_in : List ℕ → Result Kept Refusal
begun_in forced = and_then (forced_in forced) (λ names. Ok (nothing_kept names))

-- the object that the bytes begin with, if a session takes it
abbrev pub taken_in : List ℕ → Kept → Result Contents Cause
taken_in bytes k = and_then (object_in bytes) (λ o. unless NotAdded (refusal k.forced (objects k.entries) o) o)

-- it was appended
pub record AddsBytes (bytes : List ℕ) (old new : Kept) : Type 0 where
  pub object : Contents
  pub taken : taken_in bytes old ≡ Ok object
  pub adds : Adds old new (record { label = []; object = object })

-- memory may run out for it: to read it, or to add it
abbrev pub MayRunOutToAdd : List ℕ → Kept → Type 0
MayRunOutToAdd bytes k = HasBody bytes ⊎ IsOk (taken_in bytes k)

-- the object that was added last
abbrev pub last_in : Kept → Result Labelled Cause
last_in k = ok_or (last_of k.entries) NothingKept

-- it was taken away
pub record TakesLast (old new : Kept) : Type 0 where
  pub last : Labelled
  pub found : last_in old ≡ Ok last
  pub takes : Withdraws old new last

-- the link of what is kept, without the objects of what is reported
abbrev pub kept_with : ℕ → Choices → Kept → Result RunOutput Cause
kept_with w o k = and_then (refused_as NotLinked (link k.forced (objects k.entries) o)) (λ x. Ok (output_with w [] x))

abbrev pub kept_run : ℕ → ℕ → List ℕ → Kept → Result RunOutput Cause
kept_run w bits entry k = and_then (choices_in bits entry) (λ o. kept_with w o k)

-- memory may run out for it, if there is one
abbrev pub MayRunOutToLink : ℕ → List ℕ → Kept → Type 0
MayRunOutToLink bits entry k = IsOkAnd (choices_in bits entry) (λ o. IsOk (link k.forced (objects k.entries) o))

-- what is there of the last addition, its marks, takes it back, and is exactly the difference that it made
abbrev pub HasJournal : Kept → Type 0
HasJournal k = IsJournal k.forced (objects k.entries) k.journal

-- what the session shows
abbrev pub shown_in : Kept → Result (List ℕ) Cause
shown_in k = Ok (shown_text k)
