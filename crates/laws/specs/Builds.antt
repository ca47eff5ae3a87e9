-- Laws of builds: several commands `ld -r`, one after another, and a last `ld`, against one `ld` of all files. (ld(1), the option `-r`)
--
-- The path at which a step stores its link stands for the inputs of the step from then on. So the inputs of the last command stand for
-- files that were there before the build, in an order, also where one step takes the link of another, or stores over a file. Between
-- the commands other programs may run, and change any files but those that a later command takes.
use Rattle.std.specs.Prelude.{◌≡◌, ◌≢◌, ◌⊎◌, ℕ, ◌≤◌, true, false, cond, List, [], ◌∷◌, ◌++◌, map, Option, Some, Ok, IsErr, bytes_eq}
use Rattle.std.specs.List.{AllByRecursion, flat_map}
use Rattle.aout_core.specs.{Contents.Contents, Words.AreBytes}
use Rattle.link_session.specs.{Labelled.Labelled, Labelled.objects, Mentions.mentions, States.multiple_names}
use Rattle.link_out.specs.{Inputs.with_inputs, laws.PartialLinks.IsPart, laws.PartialLinks.KeepsNoMore}
use Rattle.tool_options.specs.Choices.{Choices}
use Rattle.host.specs.{Events.{stored, Opened, opens, paths_of}, declared.file_system.Stored.TheVariants.Kept}
use Rattle.laws.specs.SessionsByCommands.{CannotRead, CannotWrite, FailsBy, IsOpening, Says}
use Rattle.laws.specs.{Disks.{Disk, IsOn, Run, Writes, disk_after}, Calls.{AsksToLink, DoesPerform}}

-- ---- what a path stands for

-- an `ld`: its forced names and options, the path at which it stores its link, and the paths of its inputs
pub record Command : Type 0 where
  pub forced : List (List ℕ)
  pub options : Choices
  pub out : List ℕ
  pub inputs : List (List ℕ)

-- the files that each path stands for
abbrev pub Leaves : Type 0
Leaves = List ℕ → List (List ℕ)

-- before the build a path stands for its own file
abbrev pub itself : Leaves
itself path = path ∷ []

-- after these steps, in order
abbrev pub leaves_after : Leaves → List Command → Leaves
leaves_after of [] = of
leaves_after of (s ∷ ss) = leaves_after (λ path. cond (bytes_eq path s.out) (flat_map of s.inputs) (of path)) ss

-- the files for which the inputs of a command stand after these steps
abbrev pub leaves_of : List Command → Command → List (List ℕ)
leaves_of steps last = flat_map (leaves_after itself steps) last.inputs

-- the command without the steps: it takes these files, and may store its link elsewhere
abbrev pub at_once : List Command → Command → List ℕ → Command
at_once steps last out = record last { out = out; inputs = leaves_of steps last }

-- the link of a step may replace its inputs in that of the last command: it keeps relocation, lays out no commons and keeps each local
-- that is kept there, and each name that it forces is of bytes, and is forced there too
pub record MayReplace (last s : Command) : Type 0 where
  pub relocatable : s.options.relocatable ≡ true
  pub no_commons : s.options.force_commons ≡ false
  pub keeps : KeepsNoMore last.options.keep s.options.keep
  pub forces : IsPart s.forced last.forced
  pub bytes : AllByRecursion AreBytes s.forced

-- ---- disks

-- a disk has these bytes at these paths
abbrev pub Holds : Disk → List (List ℕ × List ℕ) → Type 0
Holds disk files = AllByRecursion (λ (f : List ℕ × List ℕ). disk f.0 ≡ Some f.1) files

-- no name is multiply defined in these files, if all are objects and are accepted
abbrev pub NoneIsMultiple : List (List ℕ) → List (List ℕ × List ℕ) → Type 0
NoneIsMultiple forced files =
    (kept : List Labelled) → with_inputs forced [] files ≡ Ok kept → multiple_names (mentions forced (objects kept)) ≡ []

module _ {W E : Type 0} (out_contents : W → Option (List ℕ)) (error_contents : E → Option (List ℕ)) where
  -- the disk after these runs, of which each changes what it stores
  abbrev pub disk_left : Disk → List (Run W E) → Disk
  disk_left disk [] = disk
  disk_left disk (r ∷ rs) = disk_left (disk_after disk r.events) rs

  -- a command was run, on a disk that has at the paths of its inputs what this one has there
  pub record IsLdRun (disk : Disk) (c : Command) (r : Run W E) : Type 0 where
    pub asks : AsksToLink r.words c.forced c.options c.out c.inputs
    pub performs : DoesPerform out_contents error_contents r
    pub on_disk : IsOn r.disk r.events
    pub inputs : AllByRecursion (λ (path : List ℕ). r.disk path ≡ disk path) c.inputs

  -- the steps were run one after another, on what those before left, and no fault ended one
  abbrev pub AreLdRuns : Disk → List Command → List (Run W E) → Type 0
  AreLdRuns disk [] [] = Unit {0}
  AreLdRuns disk (s ∷ ss) (r ∷ rs) =
      IsLdRun disk s r × (r.status ≤ 1) × AreLdRuns (disk_after disk r.events) ss rs
  AreLdRuns disk _ _ = ⊥

  -- a build: its steps were run, each may replace its inputs in the last command, and this was run on what they left. Before the build its
  -- disk had these bytes at the files for which the inputs of the last command stand
  pub record IsBuild (disk : Disk) (files : List (List ℕ × List ℕ)) (steps : List Command) (runs : List (Run W E)) (last : Command)
      (r : Run W E) : Type 0 where
    pub steps_ran : AreLdRuns disk steps runs
    pub may_replace : AllByRecursion (MayReplace last) steps
    pub last_ran : IsLdRun (disk_left disk runs) last r
    pub leaves : map (λ (f : List ℕ × List ℕ). f.0) files ≡ leaves_of steps last
    pub held : Holds disk files
    pub bytes : AllByRecursion (λ (f : List ℕ × List ℕ). AreBytes f.1) files

  -- ---- two runs

  -- both opened their inputs and stored the same file, wrote the same report, left standard error alone and have the same status, 0 or 1
  pub record StoreAlike (c d : Command) (r t : Run W E) : Type 0 where
    pub file : Contents
    pub first_found : List Opened
    pub second_found : List Opened
    pub first_inputs : paths_of first_found ≡ c.inputs
    pub second_inputs : paths_of second_found ≡ d.inputs
    pub first : r.events ≡ opens first_found ++ stored c.out file Kept ∷ []
    pub second : t.events ≡ opens second_found ++ stored d.out file Kept ∷ []
    pub report : List ℕ
    pub first_reports : Writes out_contents r report
    pub second_reports : Writes out_contents t report
    pub first_silent : r.error_after ≡ r.error_before
    pub second_silent : t.error_after ≡ t.error_before
    pub no_fault : r.status ≤ 1
    pub status : r.status ≡ t.status

  -- a run stored nothing and wrote nothing to standard output, and its status is 2
  pub record EndsInRefusal (r : Run W E) : Type 0 where
    pub status : r.status ≡ 2
    pub stores_nothing : AllByRecursion IsOpening r.events
    pub writes_nothing : r.output_after ≡ r.output_before

  -- both wrote the same line to standard error
  abbrev pub SayAlike : Run W E → Run W E → Type 0
  SayAlike r t = (text : List ℕ) × Says out_contents error_contents r text × Says out_contents error_contents t text

  -- memory ran out, or a device failed, or a file could not be opened or made
  abbrev pub IsDisturbed : Run W E → Type 0
  IsDisturbed r = FailsBy out_contents error_contents CannotRead r ⊎ FailsBy out_contents error_contents CannotWrite r

  -- both do the same, or both are refused, with the same line if the files are objects and are accepted, or one was disturbed
  abbrev pub EndAlike : Command → Command → List (List ℕ × List ℕ) → Run W E → Run W E → Type 0
  EndAlike c d files r t =
      StoreAlike c d r t
      ⊎ ((EndsInRefusal r × EndsInRefusal t × (SayAlike r t ⊎ IsErr (with_inputs c.forced [] files))) ⊎ (IsDisturbed r ⊎ IsDisturbed t))

  -- two builds of files with the same bytes, in the same order, whose last commands have the same options and forced names
  abbrev pub BuildsLaw : Type 0
  BuildsLaw =
      (one other : Disk) (files copies : List (List ℕ × List ℕ)) (steps others : List Command) (runs more : List (Run W E))
      (last final : Command) (r t : Run W E) → IsBuild one files steps runs last r → IsBuild other copies others more final t →
      map (λ (f : List ℕ × List ℕ). f.1) copies ≡ map (λ (f : List ℕ × List ℕ). f.1) files →
      final.forced ≡ last.forced → final.options ≡ last.options → NoneIsMultiple last.forced files → EndAlike last final files r t

  -- a build, and the last command without the steps
  abbrev pub OnceLaw : Type 0
  OnceLaw =
      (disk : Disk) (files : List (List ℕ × List ℕ)) (steps : List Command) (runs : List (Run W E)) (last : Command) (out : List ℕ)
      (r t : Run W E) → IsBuild disk files steps runs last r → IsLdRun disk (at_once steps last out) t →
      NoneIsMultiple last.forced files → EndAlike last (at_once steps last out) files r t

  -- the steps change nothing at other paths than those at which they store
  abbrev pub ElsewhereLaw : Type 0
  ElsewhereLaw =
      (disk : Disk) (steps : List Command) (runs : List (Run W E)) (path : List ℕ) → AreLdRuns disk steps runs →
      AllByRecursion (λ (s : Command). s.out ≢ path) steps → disk_left disk runs path ≡ disk path
