-- What a session does with one line of a script: what it opens, stores and answers, its status, and what it leaves.
--
-- A line opens at most the file that it names, stores at most the link that it asks for, and has an answer and a status: 0, or 1
-- if it was refused or its link had something to report.
use Rattle.std.specs.Prelude.{◌≡◌, ◌≢◌, ◌⊎◌, ℕ, Bool, true, false, List, [], ◌∷◌, Option, Some, None, Result, Ok, Err, IfSome}
use Rattle.aout_core.specs.{Contents.Contents, Refusals.device_fault}
use Rattle.aout_core.specs.declared.file.ReadFault.TheVariants as reads
use Rattle.link_session.specs.Labelled.{Labelled, objects}
use Rattle.tool_options.specs.Choices.{Choices}
use Rattle.link_out.specs.{function.Link.{Outcome, link}, Inputs.{Cause, bad_file, kept_with}}
use Rattle.v7tools.specs.Answers.{absent, failing, giving, adding, withdrawing, listing_externals, listing_undefined, anything_else, Verdict, done}
use Rattle.v7tools.specs.{Answers.{refused, Stepped, add_step, input_from, step, link_answer_text, link_status}, LinkAnswers.WantsMemory}
use Rattle.v7tools.specs.SessionSteps.{IsLinkBy, without_memory}
use Rattle.host.specs.{Events.Event, Events.opened, Events.stored, Sources.reading, declared.file_system.Stored.Stored}
use Rattle.command_words.specs.Scripts.{Asked, to_add, to_withdraw, for_externals, for_undefined, to_link, for_nothing}

-- a line: what it asked for, what it asked of the system, its answer, its status, and the objects that are kept after it
pub record LineRun : Type 0 where
  pub line : Asked
  pub events : List Event
  pub answer : List ℕ
  pub status : ℕ
  pub kept : List Labelled

-- the status of a step that is not a link
abbrev pub status_after : Verdict → ℕ
status_after done = 0
status_after _ = 1

-- the line did what this step does, and this is what it asked of the system
pub record DoesStep (asked : List Event) (did : Stepped) (r : LineRun) : Type 0 where
  pub events : r.events ≡ asked
  pub answer : r.answer ≡ did.answer
  pub status : r.status ≡ status_after did.verdict
  pub kept : r.kept ≡ did.kept

-- the file at a path is added by its bytes, if they are known; else as some file, or refused for some cause but a device that failed
abbrev pub IsAddWorking : Option (List ℕ) → List (List ℕ) → List Labelled → List ℕ → Stepped → Type 0
IsAddWorking (Some bytes) forced kept path did = did ≡ add_step kept path (input_from forced kept path (giving bytes))
IsAddWorking None forced kept path did =
    (found : Result Contents Cause) × (found ≢ Err (bad_file (reads.Device device_fault)))
    × (did ≡ add_step kept path (kept_with forced kept path found))

-- the file that was opened is added, or the answer is that its device failed, if it did; else memory may run out, if it is wanted
abbrev pub IsAddOf : Option (List ℕ) → Bool → List (List ℕ) → List Labelled → List ℕ → Stepped → Type 0
IsAddOf known true forced old path did = did ≡ add_step old path (input_from forced old path failing)
IsAddOf known false forced old path did =
    ((did ≡ without_memory old) × IfSome known (WantsMemory forced old path)) ⊎ IsAddWorking known forced old path did

-- the file at the path that is named was opened and closed, and its device had failed or had not
pub record OpensOne (forced : List (List ℕ)) (old : List Labelled) (path : List ℕ) (r : LineRun) : Type 0 where
  pub known : Option (List ℕ)
  pub failed : Bool
  pub did : Stepped
  pub is_add : IsAddOf known failed forced old path did
  pub does : DoesStep (reading path (Some known) failed) did r

-- there is no link: nothing is stored
pub record LinksNone (forced : List (List ℕ)) (o : Choices) (old : List Labelled) (r : LineRun) : Type 0 where
  pub did : Stepped
  pub is_link : IsLinkBy old (link forced (objects old) o) did
  pub refuses : did.verdict ≡ refused
  pub does : DoesStep [] did r

-- the file of the link was to be stored at the path that is named, and the answer depends on whether it was
pub record LinksInto (forced : List (List ℕ)) (o : Choices) (old : List Labelled) (path : List ℕ) (r : LineRun) : Type 0 where
  pub outcome : Outcome
  pub is_link : link forced (objects old) o ≡ Ok outcome
  pub what : Stored
  pub events : r.events ≡ stored path outcome.file what ∷ []
  pub answer : r.answer ≡ link_answer_text outcome.report path what
  pub status : r.status ≡ link_status outcome.report what
  pub same : r.kept ≡ old

-- a line that asks for this was run on a session with these forced names, which keeps these objects
abbrev pub IsLineOf : List (List ℕ) → Choices → List Labelled → LineRun → Asked → Type 0
IsLineOf forced o old r (to_add path) =
    DoesStep (opened path None ∷ []) (step forced o old (adding path absent)) r ⊎ OpensOne forced old path r
IsLineOf forced o old r to_withdraw = DoesStep [] (step forced o old withdrawing) r
IsLineOf forced o old r for_externals = DoesStep [] (step forced o old listing_externals) r
IsLineOf forced o old r for_undefined = DoesStep [] (step forced o old listing_undefined) r
IsLineOf forced o old r (to_link path) = LinksNone forced o old r ⊎ LinksInto forced o old path r
IsLineOf forced o old r for_nothing = DoesStep [] (step forced o old anything_else) r
