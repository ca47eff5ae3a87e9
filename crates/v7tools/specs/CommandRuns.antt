-- What the program does with its arguments: which call it runs, what it writes of a fault, and its status.
--
-- The arguments ask for a call, and then it is run, or they are refused, and nothing is asked of the system (Events). Without a fault
-- the status is that of the call, and standard error is left alone. With one it is 2, and the line of the fault goes there.
use Rattle.std.specs.Prelude.{◌≡◌, ◌⊎◌, ℕ, List, [], map, Option, Result, Ok, Err, string_bytes}
use Rattle.aout_core.specs.Wires.{Latched}
use Rattle.symtools.specs.{NmLists.nm_text, SizeLines.size_text}
use Rattle.command_words.specs.{Calls.{IsAsked, IsWhole, dashes_in, files_of}, declared.words.Call.Call}
use Rattle.command_words.specs.declared.words.Call.TheVariants.{Ld, Nm, Size, Strip, Session}
use Rattle.v7tools.specs.{FileRuns.{IsListRun, IsStripRun, OnlyWriteFailed, OrMemory}, Calls.IsOfWords, FaultTexts.fault_line}
use Rattle.v7tools.specs.{LinkRuns.{IsLinkRun, Refuses}, SessionRuns.IsSessionRun, declared.fault.CliFault.CliFault}
use Rattle.host.specs.{Events.History, Events.Extends, Events.Surroundings, Emits.PutsUnless}

-- a call was run, with a script of these bytes, if they are known
abbrev pub IsCallRun : {W : Type 0} → (W → Option (List ℕ)) → Option (List ℕ) → Call → History → History →
    Result ℕ CliFault → Latched W → Latched W → Type 0
IsCallRun contents script (Ld options forced out files) old new result before after =
    IsLinkRun contents forced options out (map string_bytes files.items) old new result before after
IsCallRun contents script (Nm options files) old new result before after =
    IsListRun contents (OrMemory options) (nm_text options) files.items old new result before after
IsCallRun contents script (Size files) old new result before after =
    IsListRun contents OnlyWriteFailed size_text files.items old new result before after
IsCallRun contents script (Strip files) old new result before after = IsStripRun old new files.items result × (after ≡ before)
IsCallRun contents script (Session options forced) old new result before after =
    IsSessionRun contents forced options script old new result before after

-- the arguments ask for this call, and each that is a dash alone is one of its files
pub record AsksFor (words : List (List ℕ)) (call : Call) : Type 0 where
  pub whole : IsWhole call
  pub asked : IsAsked words call
  pub dashes : dashes_in words ≡ dashes_in (files_of call)

-- the arguments ask for a call, and it was run
pub record RunsCall {W : Type 0} (contents : W → Option (List ℕ)) (words : List (List ℕ)) (script : Option (List ℕ))
    (old new : History) (result : Result ℕ CliFault) (before after : Latched W) : Type 0 where
  pub call : Call
  pub asks : AsksFor words call
  pub run : IsCallRun contents script call old new result before after

-- the arguments ask for no call, or memory ran out while they were read: nothing is asked of the system, and nothing is written
pub record RefusesWords {W : Type 0} (words : List (List ℕ)) (old new : History) (result : Result ℕ CliFault)
    (before after : Latched W) : Type 0 where
  pub fault : CliFault
  pub of_words : IsOfWords words fault
  pub asked : Extends old new []
  pub refuses : Refuses fault result before after

-- the arguments were refused, or the call that they ask for was run
abbrev pub RunsWords : {W : Type 0} → (W → Option (List ℕ)) → List (List ℕ) → Option (List ℕ) → History → History →
    Result ℕ CliFault → Latched W → Latched W → Type 0
RunsWords contents words script old new result before after =
    RefusesWords words old new result before after ⊎ RunsCall contents words script old new result before after

-- the status of the program, and what is written to standard error: nothing, or with 2 the line of a fault. Only a prefix of it
-- goes out if that device fails
abbrev pub Ends : {E : Type 0} → (E → Option (List ℕ)) → Result ℕ CliFault → ℕ → Latched E → Latched E → Type 0
Ends contents (Ok answer) status before after = (status ≡ answer) × (after ≡ before)
Ends contents (Err fault) status before after =
    (status ≡ 2) × PutsUnless after.has_failed (contents before.device) (contents after.device) (fault_line fault)

-- the program did this, by what was asked of the system, the result, and standard output, and ended with this status
abbrev pub PerformsSo : {W E : Type 0} → (E → Option (List ℕ)) →
    (History → History → Result ℕ CliFault → Latched W → Latched W → Type 0) → Surroundings W E → Surroundings W E → ℕ → Type 0
PerformsSo error_contents Does before after status =
    (result : Result ℕ CliFault) × Does before.asked after.asked result before.output after.output
    × Ends error_contents result status before.error after.error

-- the arguments were refused or their call was run, and the program ended with this status
abbrev pub Performs : {W E : Type 0} → (W → Option (List ℕ)) → (E → Option (List ℕ)) → List (List ℕ) → Option (List ℕ) →
    Surroundings W E → Surroundings W E → ℕ → Type 0
Performs contents error_contents words script before after status =
    PerformsSo error_contents (RunsWords contents words script) before after status
