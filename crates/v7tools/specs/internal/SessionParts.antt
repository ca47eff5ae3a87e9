-- How a session answers a line: the file that is opened, the step that is taken, and what goes out.
use Rattle.aout_core.specs.{Refusals.device_fault, Wires.{Latched, Puts}}
use Rattle.std.specs.Prelude.{◌≡◌, ◌↔◌, ◌⊎◌, ℕ, Bool, List, [], ◌∷◌, Option, Some, None, Result, IfErr, IfOk, IsErr, IsTrue}
use Rattle.std.specs.Io.KnownBytes.{Keeps}
use Rattle.link_session.specs.{Labelled.Labelled, Undo.Kept}
use Rattle.tool_options.specs.Choices.{Choices}
use Rattle.v7tools.specs.declared.session.commands.Command.TheVariants.{Add, Withdraw, Externals, Undefined, Link, Bad}
use Rattle.v7tools.specs.{Answers.{Stepped, absent, adding, step}, SessionSteps.{AddsIf, Changes, Does, IsStepOn}, declared.session.commands.Command.Command}
use Rattle.v7tools.specs.{declared.fault.CliFault.CliFault, LineRuns.{IsAddOf, IsLineOf, LineRun, status_after}}
use Rattle.v7tools.specs.declared.session.commands.Step.{Step}
use Rattle.v7tools.specs.declared.fault.CliFault.TheVariants as faults
use Rattle.host.specs.{Events.{Event, History, Extends, opened}, Sources.reading}
use Rattle.command_words.specs.{declared.lines.Line.Line, Scripts.Asked}
use Rattle.command_words.specs.declared.lines.Line.TheVariants as lines

-- a line that opens and stores no file
abbrev pub IsPlainLine : Line → Type 0
IsPlainLine (lines.Add path) = ⊥
IsPlainLine (lines.Link path) = ⊥
IsPlainLine _ = Unit {0}

-- the step that such a line asks for
abbrev pub IsCommandOf : {R : Type 0} → Line → Command R → Type 0
IsCommandOf lines.Withdraw command = command ≡ Withdraw
IsCommandOf lines.Externals command = command ≡ Externals
IsCommandOf lines.Undefined command = command ≡ Undefined
IsCommandOf lines.Bad command = command ≡ Bad
IsCommandOf _ command = ⊥

abbrev pub IsPlain : {R : Type 0} → Command R → Type 0
IsPlain (Add path wire) = ⊥
IsPlain Link = ⊥
IsPlain _ = Unit {0}

-- what a line that adds a file asks of the system, and the step that it does
abbrev pub IsAddAt : List (List ℕ) → Choices → List Labelled → List ℕ → List Event → Stepped → Type 0
IsAddAt forced o old path events did =
    ((events ≡ opened path None ∷ []) × (did ≡ step forced o old (adding path absent)))
    ⊎ ((known : Option (List ℕ)) × (failed : Bool) × (events ≡ reading path (Some known) failed) × IsAddOf known failed forced old path did)

-- it is done, and its answer went out
abbrev pub TakesAddition : {W : Type 0} → (W → Option (List ℕ)) → Choices → List ℕ → History → History → Kept → Kept →
    Result Step CliFault → Latched W → Latched W → Type 0
TakesAddition contents o path asked now old new result before after =
    (events : List Event) × (did : Stepped) × Extends asked now events × IsAddAt old.forced o old.entries path events did
    × AddsIf did.verdict old new × Does contents did new result before after

-- the status of a step is returned, and its answer went out, or on a fault a prefix of it
pub record AnswersStep {W : Type 0} (contents : W → Option (List ℕ)) (did : Stepped) (left : Kept)
    (result : Result ℕ CliFault) (before after : Latched W) : Type 0 where
  pub entries : left.entries ≡ did.kept
  pub status : IfOk result (λ status. status ≡ status_after did.verdict)
  pub write_failed : IfErr result (λ fault. fault ≡ faults.WriteFailed device_fault)
  pub fault : IsErr result ↔ IsTrue after.has_failed
  pub bytes : Puts result (contents before.device) (contents after.device) did.answer

-- a step on a command that is not a link was taken
abbrev pub TakesPlainStep : {R W : Type 0} → (R → Option (List ℕ)) → (W → Option (List ℕ)) → Choices → Command R →
    Kept → Kept → Result ℕ CliFault → Latched W → Latched W → Type 0
TakesPlainStep remaining contents o command old new result before after =
    (did : Stepped) × IsStepOn remaining old o command did × Changes command did.verdict old new
    × AnswersStep contents did new result before after

-- a line was run; its answer went out, or on a fault a prefix of it
pub record AnswersLine {W : Type 0} (contents : W → Option (List ℕ)) (o : Choices) (asks : Asked) (kept left : Kept)
    (old new : History) (result : Result ℕ CliFault) (before after : Latched W) : Type 0 where
  pub run : LineRun
  pub line : run.line ≡ asks
  pub leaves : run.kept ≡ left.entries
  pub names : left.forced ≡ kept.forced
  pub is_run : IsLineOf kept.forced o kept.entries run run.line
  pub asked : Extends old new run.events
  pub status : IfOk result (λ status. status ≡ run.status)
  pub write_failed : IfErr result (λ fault. fault ≡ faults.WriteFailed device_fault)
  pub fault : IsErr result ↔ IsTrue after.has_failed
  pub bytes : Puts result (contents before.device) (contents after.device) run.answer

-- an answer that was written is passed on, or its device fails; the status of its line stays
pub record PassesOn {W : Type 0} (contents : W → Option (List ℕ)) (status : ℕ) (result : Result ℕ CliFault)
    (before after : Latched W) : Type 0 where
  pub same : IfOk result (λ same. same ≡ status)
  pub write_failed : IfErr result (λ fault. fault ≡ faults.WriteFailed device_fault)
  pub fault : IsErr result ↔ IsTrue after.has_failed
  pub bytes : Keeps (contents before.device) (contents after.device)
