-- What a command asked of the system, which opens and stores its files, in order, and what came of it.
--
-- No contract can state what a disk holds. It can state what was asked of it: a file was opened, and what its bytes were, or it was
-- closed, and whether its device had failed, or a file was to be stored, and whether it was, or to which file a path leads. The list of
-- these events, in order, is what a command did.
use Rattle.std.specs.Prelude.{◌≡◌, ℕ, Bool, List, ◌++◌, map, Option, Some, None, ⊤}
use Rattle.aout_core.specs.{Contents.Contents, Wires.Latched}
use Rattle.host.specs.{declared.nodes.Found.Found, declared.file_system.Stored.Stored, declared.path_fault.PathFault.PathFault}

-- that the system did not do what it was asked at a path; nothing else is known of it
pub path_fault : PathFault
path_fault = record { 0 = tt }

-- A file could not be opened (`None`), or was, with its bytes if they are known. Or it was closed, and its device had failed or had not.
-- Or a file, or a text, was to be stored. Or the system was asked what a path leads to.
pub data Event : Type 0 where
  opened : List ℕ → Option (Option (List ℕ)) → Event
  closed : Bool → Event
  stored : List ℕ → Contents → Stored → Event
  written : List ℕ → List ℕ → Stored → Event
  looked : List ℕ → Found → Event

-- all events so far, if they are known
abbrev pub History : Type 0
History = Option (List Event)

-- known events grow by these
abbrev pub Extends : History → History → List Event → Type 0
Extends None new more = ⊤
Extends (Some xs) None more = ⊥
Extends (Some xs) (Some ys) more = ys ≡ xs ++ more

-- a path, and the bytes of the file that was opened there, if they are known
abbrev pub Opened : Type 0
Opened = List ℕ × Option (List ℕ)

-- the files were opened
abbrev pub opens : List Opened → List Event
opens found = map (λ f. opened f.0 (Some f.1)) found

abbrev pub paths_of : List Opened → List (List ℕ)
paths_of found = map (λ f. f.0) found

-- what is around a program: what was asked of the system so far, standard output and standard error
pub record Surroundings (W E : Type 0) : Type 0 where
  pub asked : History
  pub output : Latched W
  pub error : Latched E
