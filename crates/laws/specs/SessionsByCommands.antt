-- Laws of sessions: a line `link P` of a session does what `ld` does with the files that are left, and two lines that add a file and
-- withdraw it leave no trace.
--
-- A session's run is taken line by line: what each line asked of the system, what it answered, and its status. The files that are
-- left after some lines are those that were added and not withdrawn, with the bytes that were read there. Nothing is assumed of the
-- disk during the session, and files may change between the session and `ld`, but for those that are left.
use Rattle.std.specs.Prelude.{◌≡◌, ◌≢◌, ◌⊎◌, ℕ, Bool, true, false, eqb, List, [], ◌∷◌, ◌++◌, map, Option, Some, None, Ok, IsTrue, String, codes, decimal}
use Rattle.std.specs.{Prelude.string_bytes, declared.alloc.Global.Global, List.AllByRecursion}
use Rattle.aout_core.specs.{declared.file.ReadFault.TheVariants.Device, declared.wire.DeviceFault.DeviceFault, Contents.Contents}
use Rattle.link_session.specs.{Edits.without_last, Labelled.Labelled}
use Rattle.link_out.specs.function.Reports.{line}
use Rattle.tool_options.specs.Choices.{Choices}
use Rattle.host.specs.Events.{Event, closed, looked, opened, path_fault, stored, written, Opened, opens, paths_of}
use Rattle.host.specs.{Emits.PutsUnless, declared.nodes.Found.Found, declared.file_system.Stored.Stored, declared.file_system.Stored.TheVariants.{Kept, NotCreated, Failed}}
use Rattle.command_words.specs.Scripts.{Asked, to_add, to_withdraw, to_link}
use Rattle.v7tools.specs.{LineRuns.LineRun, LinkRuns.IsLinkRun, declared.fault.CliFault.CliFault}
use Rattle.v7tools.specs.{FaultTexts.{fault_line, no_memory}, SessionRuns.{Chains, RunsLines, events_of, lines_asked}}
use Rattle.v7tools.specs.declared.fault.CliFault.TheVariants as faults
use Rattle.laws.specs.{Disks.Did, Disks.Disk, Disks.IsOn, Disks.Run, Disks.Writes}

-- ---- what is left

-- the file that a line opened, with its bytes if they are known
abbrev pub opened_by : List Event → List Opened
opened_by (opened path (Some known) ∷ events) = (path, known) ∷ []
opened_by _ = []

-- a line that is done has status 0: an addition leaves the file that it opened after those before, and a withdrawal takes the last away
abbrev pub left_by : Asked → Bool → List Event → List Opened → List Opened
left_by (to_add path) true events left = left ++ opened_by events
left_by to_withdraw true events left = without_last left
left_by _ _ events left = left

-- the files that are left after some lines
abbrev pub left_after : List Opened → List LineRun → List Opened
left_after left [] = left
left_after left (r ∷ rs) = left_after (left_by r.line (eqb r.status 0) r.events left) rs

abbrev pub files_left : List LineRun → List Opened
files_left runs = left_after [] runs

-- a disk has at a path the bytes that the session read there
pub record IsThere (disk : Disk) (file : Opened) : Type 0 where
  pub bytes : List ℕ
  pub read : file.1 ≡ Some bytes
  pub there : disk file.0 ≡ Some bytes

abbrev pub AreThere : Disk → List Opened → Type 0
AreThere disk files = AllByRecursion (IsThere disk) files

-- ---- two disks

-- an event stores nothing at this path
abbrev pub StoresNot : List ℕ → Event → Type 0
StoresNot path (opened at found) = Unit {0}
StoresNot path (closed failed) = Unit {0}
StoresNot path (stored at file what) = at ≢ path
StoresNot path (written at text what) = at ≢ path
StoresNot path (looked at found) = Unit {0}

-- two disks have the same bytes at the path of a file, and these events store nothing there
pub record IsSameOn (one other : Disk) (events : List Event) (file : Opened) : Type 0 where
  pub bytes : List ℕ
  pub first : one file.0 ≡ Some bytes
  pub second : other file.0 ≡ Some bytes
  pub untouched : AllByRecursion (StoresNot file.0) events

-- what the session's disk has at the files that are left another disk has too, if both have the same bytes there and the lines before
-- stored nothing there
abbrev pub SameDiskLaw : Type 0
SameDiskLaw =
    (before : List LineRun) (one other : Disk) → IsOn one (events_of before) →
    AllByRecursion (IsSameOn one other (events_of before)) (files_left before) → AreThere other (files_left before)

-- ---- what the system gave

-- what the system gives for a request: a file that was opened or could not be, or had failed when it was closed, what became of a file that was to be stored, or
-- what a path leads to
pub data Gift : Type 0 where
  for_opening : Option (Option (List ℕ)) → Gift
  for_closing : Bool → Gift
  for_storing : Stored → Gift
  for_looking : Found → Gift

abbrev pub gift : Event → Gift
gift (opened path found) = for_opening found
gift (closed failed) = for_closing failed
gift (stored path file what) = for_storing what
gift (written path text what) = for_storing what
gift (looked path found) = for_looking found

-- the bytes of a file that was opened are known
abbrev pub IsKnown : Event → Type 0
IsKnown (opened path (Some None)) = ⊥
IsKnown _ = Unit {0}

-- the answer to a line is not that memory ran out
abbrev pub IsUndisturbed : Asked → List ℕ → Type 0
IsUndisturbed (to_add path) answer = answer ≢ line no_memory
IsUndisturbed (to_link path) answer = answer ≢ line no_memory
IsUndisturbed _ answer = Unit {0}

-- the system gave two lines the same: the same files with the same bytes, which are known, on devices of which the same failed, and the
-- same end of a file that was to be stored; and for neither memory ran out
pub record IsGivenTheSame (r t : LineRun) : Type 0 where
  pub gives : map gift r.events ≡ map gift t.events
  pub known : AllByRecursion IsKnown r.events
  pub first : IsUndisturbed r.line r.answer
  pub second : IsUndisturbed t.line t.answer

abbrev pub AreGivenTheSame : List LineRun → List LineRun → Type 0
AreGivenTheSame [] [] = Unit {0}
AreGivenTheSame (r ∷ rs) (t ∷ ts) = IsGivenTheSame r t × AreGivenTheSame rs ts
AreGivenTheSame _ _ = ⊥

-- only files were opened and closed
abbrev pub IsOpening : Event → Type 0
IsOpening (opened path found) = Unit {0}
IsOpening (closed failed) = Unit {0}
IsOpening _ = ⊥

-- this is the last event
abbrev pub EndsBy : List Event → Event → Type 0
EndsBy events last = (before : List Event) × (events ≡ before ++ last ∷ [])

-- memory ran out, or the last file could not be opened, or its device failed
abbrev pub CannotRead : {W E : Type 0} → Run W E → CliFault → Type 0
CannotRead r (faults.Memory _) = Unit {0}
CannotRead r (faults.CannotOpen path) = EndsBy r.events (opened (string_bytes path) None)
CannotRead r (faults.BadFile path (Device _)) = EndsBy r.events (closed true)
CannotRead r _ = ⊥

-- no file could be made at a path, or its device failed, or standard output did
abbrev pub CannotWrite : {W E : Type 0} → Run W E → CliFault → Type 0
CannotWrite r (faults.CannotCreate path) = (file : Contents) × EndsBy r.events (stored (string_bytes path) file (NotCreated path_fault))
CannotWrite r (faults.WriteFailed _) =
    IsTrue r.output_after.has_failed
    ⊎ ((path : List ℕ) × (file : Contents) × (fault : DeviceFault) × EndsBy r.events (stored path file (Failed fault)))
CannotWrite r _ = ⊥

module _ {W E : Type 0} (out_contents : W → Option (List ℕ)) (error_contents : E → Option (List ℕ)) where
  -- ---- a fault

  -- standard error got this line; only a prefix of it if that device failed
  abbrev pub Says : Run W E → List ℕ → Type 0
  Says r text = PutsUnless r.error_after.has_failed (error_contents r.error_before.device) (error_contents r.error_after.device) text

  -- a run ended with such a fault
  abbrev pub FailsBy : (Run W E → CliFault → Type 0) → Run W E → Type 0
  FailsBy IsSuch r = (r.status ≡ 2) × (fault : CliFault) × IsSuch r fault × Says r (fault_line fault)

  -- ---- a session, and ld

  -- a session was run, and ended well: these were all its lines, one after another, and their answers went out whole
  abbrev pub EndsWell : List (List ℕ) → Choices → Run W E → Type 0
  EndsWell forced o r =
      RunsLines out_contents forced o r.script (Some r.earlier) (Some (r.earlier ++ r.events)) (Ok r.status) r.output_before r.output_after

  -- ld was run: a link of the files at these paths into the file at `out`
  pub record RunsLd (forced : List (List ℕ)) (o : Choices) (out : List ℕ) (paths : List (List ℕ)) (r : Run W E) : Type 0 where
    pub output : String Global
    pub out_path : string_bytes output ≡ out
    pub did : Did error_contents (IsLinkRun out_contents forced o output paths) r

  -- ---- a link in a session

  -- ld was run with these options, on a disk that has the files that are left
  pub record LinksLeft (forced : List (List ℕ)) (o : Choices) (out : List ℕ) (left : List Opened) (r : Run W E) : Type 0 where
    pub runs : RunsLd forced o out (paths_of left) r
    pub on_disk : IsOn r.disk r.events
    pub there : AreThere r.disk left

  -- ld opened the files that are left and stored at q the file that the line stored; the line answered what ld wrote, and after that a
  -- line with its path and the status of ld, and has that status too
  pub record DoesAsLd (p q : List ℕ) (file : Contents) (left : List Opened) (r : LineRun) (l : Run W E) : Type 0 where
    pub asked : l.events ≡ opens left ++ stored q file Kept ∷ []
    pub report : List ℕ
    pub reports : Writes out_contents l report
    pub answers : r.answer ≡ report ++ line (codes "linked " ++ p ++ codes " " ++ decimal l.status)
    pub status : r.status ≡ l.status

  -- ld was refused too, for the same reason, unless an input could not be read
  pub record IsRefusedAsLd (r : LineRun) (l : Run W E) : Type 0 where
    pub status : l.status ≡ 2
    pub stores_nothing : AllByRecursion IsOpening l.events
    pub writes_nothing : l.output_after ≡ l.output_before
    pub says : Says l (codes "v7: " ++ r.answer) ⊎ FailsBy CannotRead l

  -- a line `link P` that stored its file, and any ld of the files that are left
  abbrev pub LinkLineLaw : Type 0
  LinkLineLaw =
      (forced : List (List ℕ)) (o : Choices) (kept : List Labelled) (l : Run W E) (before after : List LineRun) (r : LineRun)
      (p q : List ℕ) (file : Contents) → Chains forced o [] (before ++ r ∷ after) kept → r.line ≡ to_link p →
      r.events ≡ stored p file Kept ∷ [] → LinksLeft forced o q (files_left before) l →
      DoesAsLd p q file (files_left before) r l ⊎ (FailsBy CannotRead l ⊎ FailsBy CannotWrite l)

  -- a line `link P` that stored nothing, for another reason than that memory ran out, and any ld of the files that are left
  abbrev pub RefusedLineLaw : Type 0
  RefusedLineLaw =
      (forced : List (List ℕ)) (o : Choices) (kept : List Labelled) (l : Run W E) (before after : List LineRun) (r : LineRun)
      (p q : List ℕ) → Chains forced o [] (before ++ r ∷ after) kept → r.line ≡ to_link p → r.events ≡ [] → r.answer ≢ line no_memory →
      LinksLeft forced o q (files_left before) l → IsRefusedAsLd r l

  -- ---- an addition and a withdrawal

  -- between what the shorter run answered the longer one answered that a path was added and withdrawn; between what the shorter run asked
  -- of the system the longer one opened and closed that path; and they ended with the same status
  pub record LeavesNoTrace (path : List ℕ) (long short : Run W E) : Type 0 where
    pub known : Option (List ℕ)
    pub answered : List ℕ
    pub then_answered : List ℕ
    pub asked : List Event
    pub then_asked : List Event
    pub short_answers : Writes out_contents short (answered ++ then_answered)
    pub long_answers : Writes out_contents long
        (answered ++ (line (codes "added " ++ path) ++ (line (codes "withdrew " ++ path) ++ then_answered)))
    pub short_events : short.events ≡ asked ++ then_asked
    pub long_events : long.events ≡ asked ++ opened path (Some known) ∷ (closed false ∷ then_asked)
    pub status : long.status ≡ short.status

  -- two runs, of a script and of the same with two lines more, an addition that is done and a withdrawal right after it
  abbrev pub UndoLaw : Type 0
  UndoLaw =
      (forced : List (List ℕ)) (o : Choices) (long short : Run W E) (l : EndsWell forced o long) (s : EndsWell forced o short)
      (before after : List LineRun) (add withdraw : LineRun) (path : List ℕ) → l.runs ≡ before ++ add ∷ (withdraw ∷ after) →
      add.line ≡ to_add path → add.status ≡ 0 → withdraw.line ≡ to_withdraw →
      lines_asked s.runs ≡ lines_asked (before ++ after) → AreGivenTheSame (before ++ after) s.runs → LeavesNoTrace path long short
