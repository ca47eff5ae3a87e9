-- What a session does with the lines of a script, and its status.
--
-- Each line is run on what the line before it left (LineRuns). What a session asks of the system, and what it answers, is that of
-- its lines, one after another, and its status is the largest of theirs. It ends after the last line, at a fault of the script, or
-- at an answer that can't be written.
use Rattle.aout_core.specs.{Refusals.{device_fault, refused}, Wires.Latched}
use Rattle.std.specs.Prelude.{◌≡◌, ◌⊎◌, ℕ, max, List, [], ◌∷◌, ◌++◌, map, Option, Some, None, Result, Ok, Err, IfSome, IsTrue}
use Rattle.std.specs.{List.flat_map, Io.KnownBytes.Appends}
use Rattle.link_session.specs.Labelled.{Labelled}
use Rattle.tool_options.specs.Choices.{Choices}
use Rattle.host.specs.Events.{Event, History, Extends}
use Rattle.v7tools.specs.{LinkRuns.Refuses, declared.fault.CliFault.CliFault, LineRuns.IsLineOf, LineRuns.LineRun}
use Rattle.v7tools.specs.declared.fault.CliFault.TheVariants as faults
use Rattle.command_words.specs.{Scripts.{Asked, Given, ScriptFault, long_line, many_lines, given_after}, ScriptAnswers.NamesPath}
use Rattle.texts.specs.Lines.{lines_in}

-- the lines were run in order, each on the objects that the one before it left
abbrev pub Chains : List (List ℕ) → Choices → List Labelled → List LineRun → List Labelled → Type 0
Chains forced o old [] new = new ≡ old
Chains forced o old (r ∷ rs) new = IsLineOf forced o old r r.line × Chains forced o r.kept rs new

abbrev pub lines_asked : List LineRun → List Asked
lines_asked runs = map (λ r. r.line) runs

abbrev pub events_of : List LineRun → List Event
events_of runs = flat_map (λ r. r.events) runs

abbrev pub answers_of : List LineRun → List ℕ
answers_of runs = flat_map (λ r. r.answer) runs

-- the largest status of all
abbrev pub worst : List LineRun → ℕ
worst [] = 0
worst (r ∷ rs) = max r.status (worst rs)

-- the lines were run on a session, and their answers went out whole; if the wire had failed before, there are no lines
pub record Ran {W : Type 0} (contents : W → Option (List ℕ)) (forced : List (List ℕ)) (o : Choices) (start kept : List Labelled)
    (runs : List LineRun) (old new : History) (before after : Latched W) : Type 0 where
  pub chain : Chains forced o start runs kept
  pub asked : Extends old new (events_of runs)
  pub answers : Appends (contents before.device) (contents after.device) (answers_of runs)
  pub working : IsTrue after.has_failed → IsTrue before.has_failed
  pub latched : IsTrue before.has_failed → (runs ≡ []) × (after ≡ before)

-- what a script gives, by its bytes
abbrev pub given : List ℕ → Given
given bytes = given_after 0 (lines_in bytes)

-- the lines are all, and this ends them
abbrev pub AreLines : Option (List ℕ) → List Asked → Option ScriptFault → Type 0
AreLines known lines fault = IfSome known (λ bytes. given bytes ≡ record { lines = lines; fault = fault })

-- the lines are the first ones
abbrev pub AreFirst : Option (List ℕ) → List Asked → Type 0
AreFirst known lines = IfSome known (λ bytes. (more : List Asked) × ((given bytes).lines ≡ lines ++ more))

-- after these lines the script gives no further one; its device may fail, and memory may run out for a line that names a path
abbrev pub StopsAfter : Option (List ℕ) → List Asked → CliFault → Type 0
StopsAfter known lines faults.LongLine = AreLines known lines (Some long_line)
StopsAfter known lines faults.ManyLines = AreLines known lines (Some many_lines)
StopsAfter known lines faults.ScriptFailed = AreFirst known lines
StopsAfter known lines (faults.Memory _) =
    IfSome known (λ bytes. (a : Asked) × (more : List Asked) × NamesPath a × ((given bytes).lines ≡ lines ++ a ∷ more))
StopsAfter known lines _ = ⊥

-- the lines that were run are all, and the status is the largest of theirs; or after them the script gave a fault
abbrev pub EndsAfter : Option (List ℕ) → List LineRun → Result ℕ CliFault → Type 0
EndsAfter script runs (Ok status) = AreLines script (lines_asked runs) None × (status ≡ worst runs)
EndsAfter script runs (Err fault) = StopsAfter script (lines_asked runs) fault

-- all answers went out whole
pub record RunsLines {W : Type 0} (contents : W → Option (List ℕ)) (forced : List (List ℕ)) (o : Choices)
    (script : Option (List ℕ)) (old new : History) (result : Result ℕ CliFault) (before after : Latched W) : Type 0 where
  pub runs : List LineRun
  pub kept : List Labelled
  pub ran : Ran contents forced o [] kept runs old new before after
  pub ends : EndsAfter script runs result

-- after the lines whose answers went out whole one more was run, and only a prefix of its answer went out; if the wire had
-- failed before, it is the first line, and nothing went out
pub record BreaksOff {W : Type 0} (contents : W → Option (List ℕ)) (forced : List (List ℕ)) (o : Choices)
    (script : Option (List ℕ)) (old new : History) (result : Result ℕ CliFault) (before after : Latched W) : Type 0 where
  pub runs : List LineRun
  pub kept : List Labelled
  pub chain : Chains forced o [] runs kept
  pub last : LineRun
  pub is_run : IsLineOf forced o kept last last.line
  pub first : AreFirst script (lines_asked runs ++ last.line ∷ [])
  pub asked : Extends old new (events_of runs ++ last.events)
  pub part : List ℕ
  pub rest : List ℕ
  pub split : last.answer ≡ part ++ rest
  pub answers : Appends (contents before.device) (contents after.device) (answers_of runs ++ part)
  pub failed : IsTrue after.has_failed
  pub latched : IsTrue before.has_failed → (runs ≡ []) × (after ≡ before)
  pub refusal : result ≡ Err (faults.WriteFailed device_fault)

-- a session that begins with these forced names and no objects: memory runs out before a line is read, all lines are
-- run or those up to a fault of the script, or those up to one whose answer can't be written
abbrev pub IsSessionRun : {W : Type 0} → (W → Option (List ℕ)) → List (List ℕ) → Choices → Option (List ℕ) → History →
    History → Result ℕ CliFault → Latched W → Latched W → Type 0
IsSessionRun contents forced o script old new result before after =
    (Extends old new [] × Refuses (faults.Memory refused) result before after)
    ⊎ (RunsLines contents forced o script old new result before after
    ⊎ BreaksOff contents forced o script old new result before after)
