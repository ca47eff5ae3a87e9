-- What `read_object` returns for the bytes that it was given, and what it leaves of them.
--
-- The file that the bytes begin with is read as `read_file` reads it, and then checked.
use Rattle.std.specs.Prelude.{◌≡◌, ℕ, List, Option, Some, Result, Ok, Err}
use Rattle.aout_core.specs.{declared.object_reader.NoObject.NoObject, declared.object_reader.NoObject.TheVariants.{NotRead, NotFit}}
use Rattle.aout_core.specs.{Contents.Contents, Reading.{IsReadOf, LeavesAfter}, WellFormed.{first_object_fault, IsWellFormed}}

abbrev pub IsObjectRead : Result Contents NoObject → List ℕ → Option (List ℕ) → Type 0
IsObjectRead (Ok c) bytes left = IsReadOf (Ok c) bytes × LeavesAfter (Ok c) bytes left × IsWellFormed c
IsObjectRead (Err (NotRead fault)) bytes left = IsReadOf (Err fault) bytes × LeavesAfter (Err fault) bytes left
IsObjectRead (Err (NotFit fault)) bytes left =
    (c : Contents) × IsReadOf (Ok c) bytes × LeavesAfter (Ok c) bytes left × (first_object_fault c ≡ Some fault)
