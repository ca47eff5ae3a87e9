-- What nm, size and strip do: what they open and read, what they write or store, and their status. (nm(1), size(1), strip(1))
--
-- Each file is opened and read before the next one is opened, and nothing is written or stored before all are read, so that one bad
-- file leaves all as it was.
use Rattle.aout_core.specs.{Refusals.{device_fault, refused}, Contents.Contents, Decoding.decode, Reading.IsReadOf, Strip.stripped}
use Rattle.aout_core.specs.Wires.{Latched, Puts}
use Rattle.aout_core.specs.declared.file.ReadFault.{ReadFault}
use Rattle.aout_core.specs.declared.file.ReadFault.TheVariants as reads
use Rattle.std.specs.declared.alloc.Global.{Global}
use Rattle.std.specs.Prelude.{◌≡◌, ◌≢◌, ◌↔◌, ◌⊎◌, ℕ, List, [], ◌∷◌, ◌++◌, map, Option, Some, None, Result, Ok, Err, IfErr, IfOk, IfSome}
use Rattle.std.specs.{List.flat_map, Prelude.{Bool, IsTrue, String, string_bytes, true, false}}
use Rattle.symtools.specs.{Files.by_bytes, NmLists.ListsUpTo}
use Rattle.tool_options.specs.declared.nm_options.NmOptions.{NmOptions}
use Rattle.host.specs.{Events.{Event, History, Extends, Opened, opened, stored}, Sources.reading, declared.file_system.Stored.Stored}
use Rattle.host.specs.declared.file_system.Stored.TheVariants.{Kept, NotCreated, Failed}
use Rattle.v7tools.specs.{LinkRuns.Refuses, declared.fault.CliFault.CliFault}
use Rattle.v7tools.specs.declared.fault.CliFault.TheVariants as faults

-- a path with what was read there
abbrev pub Loaded : Type 0
Loaded = String Global × Contents

-- a device failed while a file was read
abbrev pub is_broken : ReadFault → Bool
is_broken (reads.Device _) = true
is_broken _ = false

-- the file at a path was opened and closed, its device had failed or had not, and this holds of its bytes, if they are known
abbrev pub ReadsOn : History → History → String Global → Bool → (List ℕ → Type 0) → Type 0
ReadsOn old new path failed holds =
    (known : Option (List ℕ)) × Extends old new (reading (string_bytes path) (Some known) failed) × IfSome known holds

-- the file at a path was opened, read and closed, or why it was not read: that its device failed is told if and only if it did; memory
-- runs out only for what its header announces
abbrev pub IsLoadAt : History → History → String Global → Result Loaded CliFault → Type 0
IsLoadAt old new path (Ok loaded) = (loaded.0 ≡ path) × ReadsOn old new path false (λ bytes. decode bytes ≡ Ok loaded.1)
IsLoadAt old new path (Err (faults.CannotOpen at)) = (at ≡ path) × Extends old new (opened (string_bytes path) None ∷ [])
IsLoadAt old new path (Err (faults.BadFile at fault)) = (at ≡ path) × (fault ≢ reads.Memory refused) × ReadsOn old new path (is_broken fault) (IsReadOf (Err fault))
IsLoadAt old new path (Err (faults.Memory _)) = ReadsOn old new path false (IsReadOf (Err (reads.Memory refused)))
IsLoadAt old new path (Err _) = ⊥

-- what was read at each path is what the bytes of the file that was opened there give, if they are known
abbrev pub AreRead : List Opened → List Loaded → Type 0
AreRead [] [] = Unit {0}
AreRead (f ∷ fs) (l ∷ ls) = ((f.0 ≡ string_bytes l.0) × IfSome f.1 (λ bytes. decode bytes ≡ Ok l.1)) × AreRead fs ls
AreRead _ _ = ⊥

-- the files were opened and closed, and no device had failed
abbrev pub readings : List Opened → List Event
readings found = flat_map (λ f. reading f.0 (Some f.1) false) found

-- some files were opened, read and closed in order, each before the next one was opened
pub record Reads (old new : History) (loaded : List Loaded) : Type 0 where
  pub found : List Opened
  pub read : AreRead found loaded
  pub asked : Extends old new (readings found)

-- the files before one were opened and read, and that one was not
pub record ReadsUpTo (old new : History) (files : List (String Global)) (fault : CliFault) : Type 0 where
  pub loaded : List Loaded
  pub path : String Global
  pub rest : List (String Global)
  pub order : files ≡ map (λ l. l.0) loaded ++ path ∷ rest
  pub between : History
  pub before : Reads old between loaded
  pub last : IsLoadAt between new path (Err fault)

-- all files were opened and read
abbrev pub ReadsAll : History → History → List (String Global) → List Loaded → Type 0
ReadsAll old new files loaded = (files ≡ map (λ l. l.0) loaded) × Reads old new loaded

-- only those up to one that was not read; or memory ran out before any was opened
abbrev pub ReadsNotAll : History → History → List (String Global) → CliFault → Type 0
ReadsNotAll old new files fault = ((fault ≡ faults.Memory refused) × Extends old new []) ⊎ ReadsUpTo old new files fault

-- a list of files is cut short only if a device failed
abbrev pub OnlyWriteFailed : List (List ℕ × Contents) → CliFault → Option (List ℕ) → Option (List ℕ) → Type 0
OnlyWriteFailed files fault old new = fault ≡ faults.WriteFailed device_fault

-- or also if memory ran out for one file; then all lines of the files before it went out, and nothing else
abbrev pub OrMemory : NmOptions → List (List ℕ × Contents) → CliFault → Option (List ℕ) → Option (List ℕ) → Type 0
OrMemory o files fault old new = (fault ≡ faults.WriteFailed device_fault) ⊎ ((fault ≡ faults.Memory refused) × ListsUpTo o files old new)

-- the text went out, or on a fault a prefix of it
pub record Lists {W : Type 0} (contents : W → Option (List ℕ)) (cut_short : CliFault → Option (List ℕ) → Option (List ℕ) → Type 0)
    (text : List ℕ) (result : Result ℕ CliFault) (before after : Latched W) : Type 0 where
  pub status : IfOk result (λ status. status ≡ 0)
  pub other : IfErr result (λ fault. cut_short fault (contents before.device) (contents after.device))
  pub failed : (result ≡ Err (faults.WriteFailed device_fault)) ↔ IsTrue after.has_failed
  pub bytes : Puts result (contents before.device) (contents after.device) text

-- nothing is written before all files are read
abbrev pub IsListRun : {W : Type 0} → (W → Option (List ℕ)) →
    (List (List ℕ × Contents) → CliFault → Option (List ℕ) → Option (List ℕ) → Type 0) → (List (List ℕ × Contents) → List ℕ) →
    List (String Global) → History → History → Result ℕ CliFault → Latched W → Latched W → Type 0
IsListRun contents cut_short text files old new result before after =
    ((fault : CliFault) × ReadsNotAll old new files fault × Refuses fault result before after)
    ⊎ ((loaded : List Loaded) × ReadsAll old new files loaded
    × Lists contents (cut_short (by_bytes loaded)) (text (by_bytes loaded)) result before after)

-- a file is stored, or the fault is the reason why it is not
abbrev pub IsStored : String Global → Stored → Result (Unit {0}) CliFault → Type 0
IsStored path Kept result = result ≡ Ok tt
IsStored path (NotCreated _) result = result ≡ Err (faults.CannotCreate path)
IsStored path (Failed _) result = result ≡ Err (faults.WriteFailed device_fault)

-- a file is to be stored stripped at its own path
abbrev pub strips : Loaded → Stored → Event
strips l what = stored (string_bytes l.0) (stripped l.1) what

-- the files before one are stored, and that one is not
pub record StripsUpTo (old new : History) (loaded : List Loaded) (fault : CliFault) : Type 0 where
  pub front : List Loaded
  pub last : Loaded
  pub rest : List Loaded
  pub what : Stored
  pub order : loaded ≡ front ++ last ∷ rest
  pub asked : Extends old new (map (λ l. strips l Kept) front ++ strips last what ∷ [])
  pub fails : IsStored last.0 what (Err fault)

-- each file is stored stripped at its own path, in order, up to the first that can't be
abbrev pub IsStripping : History → History → List Loaded → Result ℕ CliFault → Type 0
IsStripping old new loaded (Ok status) = (status ≡ 0) × Extends old new (map (λ l. strips l Kept) loaded)
IsStripping old new loaded (Err fault) = StripsUpTo old new loaded fault

-- nothing is stored before all files are read
abbrev pub IsStripRun : History → History → List (String Global) → Result ℕ CliFault → Type 0
IsStripRun old new files result =
    ((fault : CliFault) × ReadsNotAll old new files fault × (result ≡ Err fault))
    ⊎ ((loaded : List Loaded) × (between : History) × ReadsAll old between files loaded × IsStripping between new loaded result)
