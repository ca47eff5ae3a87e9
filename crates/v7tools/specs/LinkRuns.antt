-- What ld does: what it opens, what it stores, what it writes, and its status. (ld(1); the order of these: own choice)
--
-- All inputs are opened, whatever they hold, or the first that can't be is the fault. Only a link is stored, and only what was stored is
-- reported.
use Rattle.aout_core.specs.{Refusals.{device_fault, refused}, Wires.{Latched, Writes}}
use Rattle.std.specs.declared.alloc.Global.{Global}
use Rattle.std.specs.Prelude.{◌≡◌, ◌⊎◌, ◌↔◌, ℕ, Bool, List, [], ◌∷◌, ◌++◌, map, true, false, Option, Some, None, Result, Ok, Err, IfErr, IfOk, String}
use Rattle.std.specs.Prelude.{string_bytes}
use Rattle.link_out.specs.{function.Reports.{ReportNames, report_text, status_of}, declared.linked.Linked.Linked, Outcomes.report_names}
use Rattle.tool_options.specs.Choices.{Choices}
use Rattle.host.specs.{Events.{Event, History, Extends, Opened, closed, opened, opens, paths_of, stored}, declared.file_system.Stored.Stored}
use Rattle.host.specs.declared.file_system.Stored.TheVariants.{Kept, NotCreated, Failed}
use Rattle.v7tools.specs.{LinkAnswers.{Input, IsDeviceFault, IsLinkOf}, declared.fault.CliFault.CliFault}
use Rattle.v7tools.specs.declared.fault.CliFault.TheVariants as faults

-- the files were opened one after another up to the one at this path, which can't be
pub record StopsAt (old new : History) (files : List (List ℕ)) (path : List ℕ) : Type 0 where
  pub found : List Opened
  pub rest : List (List ℕ)
  pub order : files ≡ paths_of found ++ path ∷ rest
  pub asked : Extends old new (opens found ++ opened path None ∷ [])

-- the inputs of a link whose files were opened; none of their devices has failed yet
abbrev pub inputs_opened : List Opened → List Input
inputs_opened found = map (λ f. record { path = f.0; known = f.1; has_failed = false }) found

-- the files that were opened are all, and this is the link of them, or why there is none
pub record IsLinkOfFiles (forced : List (List ℕ)) (o : Choices) (files : List (List ℕ)) (found : List Opened)
    (answer : Result Linked CliFault) : Type 0 where
  pub all : paths_of found ≡ files
  pub link : IsLinkOf forced o (inputs_opened found) answer

-- the report went out, or on a fault a prefix of it
pub record Reports {W : Type 0} (contents : W → Option (List ℕ)) (f : ReportNames) (result : Result ℕ CliFault)
    (before after : Latched W) : Type 0 where
  pub status : IfOk result (λ status. status ≡ status_of f)
  pub write_failed : IfErr result (λ fault. fault ≡ faults.WriteFailed device_fault)
  pub writes : Writes contents result before after (report_text f)

-- the report goes out only if the file is stored
abbrev pub ReportsIf : {W : Type 0} → (W → Option (List ℕ)) → Stored → String Global → ReportNames → Result ℕ CliFault →
    Latched W → Latched W → Type 0
ReportsIf contents Kept out f result before after = Reports contents f result before after
ReportsIf contents (NotCreated _) out f result before after = (result ≡ Err (faults.CannotCreate out)) × (after ≡ before)
ReportsIf contents (Failed _) out f result before after = (result ≡ Err (faults.WriteFailed device_fault)) × (after ≡ before)

-- nothing goes out
pub record Refuses {W : Type 0} (fault : CliFault) (result : Result ℕ CliFault) (before after : Latched W) : Type 0 where
  pub refusal : result ≡ Err fault
  pub silent : after ≡ before

-- a file can't be opened
pub record CannotOpenOne {W : Type 0} (files : List (List ℕ)) (old new : History) (result : Result ℕ CliFault)
    (before after : Latched W) : Type 0 where
  pub path : String Global
  pub stops : StopsAt old new files (string_bytes path)
  pub refuses : Refuses (faults.CannotOpen path) result before after

-- a file at which a link stops is closed, and its device has failed or has not
abbrev pub closings : Option Bool → List Event
closings None = []
closings (Some failed) = closed failed ∷ []

-- there is no link: nothing is stored. That a device failed is told if and only if that of the file did at which the link stopped
pub record MakesNoLink {W : Type 0} (forced : List (List ℕ)) (o : Choices) (files : List (List ℕ)) (old new : History)
    (result : Result ℕ CliFault) (before after : Latched W) : Type 0 where
  pub fault : CliFault
  pub found : List Opened
  pub answer : IsLinkOfFiles forced o files found (Err fault)
  pub stopped : Option Bool
  pub told : IsDeviceFault fault ↔ (stopped ≡ Some true)
  pub asked : Extends old new (opens found ++ closings stopped)
  pub refuses : Refuses fault result before after

-- there is a link: after all files were opened its file is to be stored, and if that is done the link is reported
pub record StoresLink {W : Type 0} (contents : W → Option (List ℕ)) (forced : List (List ℕ)) (o : Choices) (out : String Global)
    (files : List (List ℕ)) (old new : History) (result : Result ℕ CliFault) (before after : Latched W) : Type 0 where
  pub linked : Linked
  pub what : Stored
  pub found : List Opened
  pub answer : IsLinkOfFiles forced o files found (Ok linked)
  pub asked : Extends old new (opens found ++ stored (string_bytes out) linked.file what ∷ [])
  pub reports : ReportsIf contents what out (report_names linked.report) result before after

-- no memory before anything was opened, a file that can't be opened, no link, or a link
abbrev pub IsLinkRun : {W : Type 0} → (W → Option (List ℕ)) → List (List ℕ) → Choices → String Global → List (List ℕ) →
    History → History → Result ℕ CliFault → Latched W → Latched W → Type 0
IsLinkRun contents forced o out files old new result before after =
    (Extends old new [] × Refuses (faults.Memory refused) result before after)
    ⊎ (CannotOpenOne files old new result before after
    ⊎ (MakesNoLink forced o files old new result before after
    ⊎ StoresLink contents forced o out files old new result before after))
