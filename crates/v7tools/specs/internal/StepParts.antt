-- What the parts of a step find and do.
use Rattle.aout_core.specs.{Refusals.device_fault, Refusals.refused, Contents.Contents, Decoding.decode, Wires.Latched, Wires.Writes}
use Rattle.aout_core.specs.declared.file.ReadFault.TheVariants as reads
use Rattle.std.specs.Prelude.{◌≡◌, ◌⊎◌, ℕ, false, cond, List, [], Option, Some, None, Result, Ok, Err, IfSome, IsTrue, String}
use Rattle.std.specs.{Prelude.string_bytes, declared.alloc.Global.Global}
use Rattle.link_session.specs.{declared.state.State.State, Edits.last_of, Labelled.Labelled, Sessions.Adds, Undo.Kept}
use Rattle.link_out.specs.{declared.linked.LinkFault.LinkFault, declared.linked.Linked.Linked, Outcomes.{IsLinkOf, outcome_of}}
use Rattle.link_out.specs.{function.Reports.{is_missing, line}, function.Link.Outcome, Inputs.{Cause, bad_file, object_in, kept_with}}
use Rattle.v7tools.specs.FaultTexts.{cli_text, fault_at, fault_of_link}
use Rattle.v7tools.specs.Answers.{failing, Stepped, add_step, withdraw_step, input_from}
use Rattle.v7tools.specs.LineRuns.{IsAddWorking}
use Rattle.v7tools.specs.SessionSteps.{without_memory, AddsIf, WithdrawsIf, Does}
use Rattle.v7tools.specs.{declared.fault.CliFault.CliFault, declared.session.commands.Step.Step, LinkAnswers.WantsMemory}
use Rattle.v7tools.specs.declared.fault.CliFault.TheVariants as faults

-- the label of an object, if there is one
abbrev pub label_of : Option Labelled → List ℕ
label_of None = []
label_of (Some e) = e.label

-- the line of a name that is undefined
abbrev pub missing_line : List ℕ × State → List ℕ
missing_line e = cond (is_missing e.0 e.1) (line e.0) []

-- what is found after a path: that the device fails, or what its bytes are, if they are known
abbrev pub IsFound : Option (List ℕ) → Result Contents Cause → Type 0
IsFound known found = (found ≡ Err (bad_file (reads.Device device_fault))) ⊎ IfSome known (λ bytes. found ≡ object_in (decode bytes))

-- the file at a path is not added, for the cause that this fault names
pub record IsRefusal (known : Option (List ℕ)) (old : Kept) (path : String Global) (fault : CliFault) : Type 0 where
  pub found : Result Contents Cause
  pub cause : Cause
  pub is_found : IsFound known found
  pub refuses : kept_with old.forced old.entries (string_bytes path) found ≡ Err cause
  pub names : fault ≡ fault_at path cause

-- an object is added
pub record IsAccepted (known : Option (List ℕ)) (old new : Kept) (path : List ℕ) (object : Contents) : Type 0 where
  pub adds : Adds old new (record { label = path; object = object })
  pub is_found : IsFound known (Ok object)
  pub accepts : kept_with old.forced old.entries path (Ok object) ≡ Ok new.entries

-- the file at a path was added, or the fault is the reason why it was not; memory runs out only if it is wanted
abbrev pub IsAddition : Option (List ℕ) → Kept → Kept → String Global → Result (Unit {0}) CliFault → Type 0
IsAddition known old new path (Ok _) = (object : Contents) × IsAccepted known old new (string_bytes path) object
IsAddition known old new path (Err fault) =
    (new ≡ old) × (((fault ≡ faults.Memory refused) × IfSome known (WantsMemory old.forced old.entries (string_bytes path)))
    ⊎ IsRefusal known old path fault)

-- an addition, with its wire before and after: the answer is that of a device that failed if and only if the wire has
abbrev pub IsAddOver : {R : Type 0} → (R → Option (List ℕ)) → Latched R → Latched R → List (List ℕ) → List Labelled →
    List ℕ → Stepped → Type 0
IsAddOver remaining from to forced kept path did =
    (IsTrue to.has_failed × (did ≡ add_step kept path (input_from forced kept path failing)))
    ⊎ ((to.has_failed ≡ false) × (from.has_failed ≡ false) × (((did ≡ without_memory kept) × IfSome (remaining from.device)
    (WantsMemory forced kept path)) ⊎ IsAddWorking (remaining from.device) forced kept path did))

-- the file at a path is added, or the answer is the reason why it is not
abbrev pub TakesAddStep : {R W : Type 0} → (R → Option (List ℕ)) → (W → Option (List ℕ)) → String Global → Latched R →
    Latched R → Kept → Kept → Result Step CliFault → Latched W → Latched W → Type 0
TakesAddStep remaining contents path from to old new result before after =
    (did : Stepped) × IsAddOver remaining from to old.forced old.entries (string_bytes path) did
    × AddsIf did.verdict old new × Does contents did new result before after

-- the last object is taken away, or there is none
abbrev pub TakesWithdrawal : {W : Type 0} → (W → Option (List ℕ)) → Kept → Kept → Result Step CliFault → Latched W → Latched W → Type 0
TakesWithdrawal contents old new result before after =
    WithdrawsIf (withdraw_step old.entries (last_of old.entries)).verdict old new
    × Does contents (withdraw_step old.entries (last_of old.entries)) new result before after

-- there is no link, and the text of its fault goes out, or a prefix of it
abbrev pub RefusesLink : {W T : Type 0} → (W → Option (List ℕ)) → Result Outcome LinkFault → Result T CliFault →
    Latched W → Latched W → Type 0
RefusesLink contents answer result before after =
    (fault : LinkFault) × IsLinkOf (Err fault) answer × Writes contents result before after (line (cli_text (fault_of_link fault)))

-- a link is made, and nothing is written; or there is none
abbrev pub MakesLink : {W : Type 0} → (W → Option (List ℕ)) → Result Outcome LinkFault →
    Result (Option Linked) CliFault → Latched W → Latched W → Type 0
MakesLink contents answer (Ok (Some linked)) before after = (answer ≡ Ok (outcome_of linked)) × (after ≡ before)
MakesLink contents answer (Ok None) before after = RefusesLink {T = Option Linked} contents answer (Ok None) before after
MakesLink contents answer (Err fault) before after = RefusesLink {T = Option Linked} contents answer (Err fault) before after
