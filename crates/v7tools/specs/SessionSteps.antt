-- What a step of a session does, as far as its reader's bytes are known and memory is found.
--
-- A step does what the definition `step` (Answers) gives for the command, by what its path leads to. Two things do not follow from the
-- command and the session: whether a device failed, and whether there was memory. Here is what each may change, and what goes out.
use Rattle.std.specs.Prelude.{◌≡◌, ◌⊎◌, ℕ, false, List, Option, Some, None, Result, IfOk, IfSome, IsOk, string_bytes}
use Rattle.aout_core.specs.{Contents.Contents, WellFormed.IsWellFormed, Wires.Latched, Wires.Writes}
use Rattle.link_session.specs.{Labelled.Labelled, Labelled.objects, Sessions.Adds, Sessions.Withdraws, Undo.Kept}
use Rattle.link_out.specs.{declared.linked.LinkFault.LinkFault, function.Link.Outcome, function.Link.link, Outcomes.outcome_of}
use Rattle.link_out.specs.{function.Reports.line, Inputs.Cause, Inputs.kept_with}
use Rattle.tool_options.specs.Choices.{Choices}
use Rattle.v7tools.specs.declared.session.commands.Command.TheVariants.{Add, Withdraw, Externals, Undefined, Link, Bad}
use Rattle.v7tools.specs.declared.session.commands.Step.TheVariants.{Done, Refused, ToStore}
use Rattle.v7tools.specs.Answers.{absent, failing, giving, adding, withdrawing, listing_externals, listing_undefined, anything_else}
use Rattle.v7tools.specs.Answers.{Verdict, done, refused, to_store, Stepped, add_step, input_from, link_step, step}
use Rattle.v7tools.specs.{declared.fault.CliFault.CliFault, declared.session.commands.Command.Command, declared.session.commands.Step.Step}
use Rattle.v7tools.specs.{FaultTexts.no_memory, LinkAnswers.WantsMemory}

-- the verdict on a step that the code returns
abbrev pub verdict_of : Step → Verdict
verdict_of Done = done
verdict_of Refused = refused
verdict_of (ToStore l) = to_store (outcome_of l)

-- ---- what a step may do

-- if there is no memory a step is refused
abbrev pub without_memory : List Labelled → Stepped
without_memory kept = record { verdict = refused; answer = line no_memory; kept = kept }

-- the file at a path is added by its bytes, if they are known; else as some file, or refused for some cause
abbrev pub IsAddOn : Option (List ℕ) → List (List ℕ) → List Labelled → List ℕ → Stepped → Type 0
IsAddOn (Some bytes) forced kept path did = did ≡ add_step kept path (input_from forced kept path (giving bytes))
IsAddOn None forced kept path did = (found : Result Contents Cause) × (did ≡ add_step kept path (kept_with forced kept path found))

-- a device may fail, and one that has failed does; before it fails memory may run out, if it is wanted
abbrev pub IsAddBy : {R : Type 0} → (R → Option (List ℕ)) → Latched R → List (List ℕ) → List Labelled → List ℕ → Stepped → Type 0
IsAddBy remaining wire forced kept path did =
    (did ≡ add_step kept path (input_from forced kept path failing))
    ⊎ ((wire.has_failed ≡ false) × (((did ≡ without_memory kept) × IfSome (remaining wire.device) (WantsMemory forced kept path))
    ⊎ IsAddOn (remaining wire.device) forced kept path did))

-- memory may run out only if there is a link
abbrev pub IsLinkBy : List Labelled → Result Outcome LinkFault → Stepped → Type 0
IsLinkBy kept answer did = (did ≡ link_step kept answer) ⊎ ((did ≡ without_memory kept) × IsOk answer)

-- what a step on a command may do
abbrev pub IsStepOn : {R : Type 0} → (R → Option (List ℕ)) → Kept → Choices → Command R → Stepped → Type 0
IsStepOn remaining old o (Add path None) did = did ≡ step old.forced o old.entries (adding (string_bytes path) absent)
IsStepOn remaining old o (Add path (Some wire)) did = IsAddBy remaining wire old.forced old.entries (string_bytes path) did
IsStepOn remaining old o Withdraw did = did ≡ step old.forced o old.entries withdrawing
IsStepOn remaining old o Externals did = did ≡ step old.forced o old.entries listing_externals
IsStepOn remaining old o Undefined did = did ≡ step old.forced o old.entries listing_undefined
IsStepOn remaining old o Link did = IsLinkBy old.entries (link old.forced (objects old.entries) o) did
IsStepOn remaining old o Bad did = did ≡ step old.forced o old.entries anything_else

-- ---- what a step leaves

-- an addition that is done appends an object, and a withdrawal that is done takes the last; nothing else changes a session
abbrev pub AddsIf : Verdict → Kept → Kept → Type 0
AddsIf done old new = (e : Labelled) × Adds old new e
AddsIf _ old new = new ≡ old

abbrev pub WithdrawsIf : Verdict → Kept → Kept → Type 0
WithdrawsIf done old new = (e : Labelled) × Withdraws old new e
WithdrawsIf _ old new = new ≡ old

-- what a command changes, by what was done
abbrev pub Changes : {R : Type 0} → Command R → Verdict → Kept → Kept → Type 0
Changes (Add path wire) verdict old new = AddsIf verdict old new
Changes Withdraw verdict old new = WithdrawsIf verdict old new
Changes _ verdict old new = new ≡ old

-- the answer went out, or on a fault a prefix of it; of a link that is to be stored nothing is written
abbrev pub GoesOut : {W : Type 0} → (W → Option (List ℕ)) → Verdict → List ℕ → Result Step CliFault → Latched W → Latched W → Type 0
GoesOut contents (to_store x) answer result old new = IsOk result × (new ≡ old)
GoesOut contents _ answer result old new = Writes contents result old new answer

-- a step did this
pub record Does {W : Type 0} (contents : W → Option (List ℕ)) (did : Stepped) (new : Kept)
    (result : Result Step CliFault) (before after : Latched W) : Type 0 where
  pub kept : new.entries ≡ did.kept
  pub verdict : IfOk result (λ s. verdict_of s ≡ did.verdict)
  pub answer : GoesOut contents did.verdict did.answer result before after

-- a step on a command, from the answer and the session after it
abbrev pub TakesStep : {R W : Type 0} → (R → Option (List ℕ)) → (W → Option (List ℕ)) → Choices → Command R → Kept →
    Kept → Result Step CliFault → Latched W → Latched W → Type 0
TakesStep remaining contents o command old new result before after =
    (did : Stepped) × IsStepOn remaining old o command did × Changes command did.verdict old new × Does contents did new result before after

-- a link that is to be stored can be linked again
abbrev pub StoresObject : Step → Type 0
StoresObject (ToStore l) = IsWellFormed l.file
StoresObject _ = Unit {0}
