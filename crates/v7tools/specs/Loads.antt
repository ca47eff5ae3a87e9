-- What `load` returns for the file at a path, by what `read_file` returns for its bytes.
--
-- `load` is `read_file` with the path: the path comes back with the file, or is in the fault.
use Rattle.aout_core.specs.{Refusals.refused, declared.file.ReadFault.ReadFault, Contents.Contents}
use Rattle.aout_core.specs.declared.file.ReadFault.TheVariants as reads
use Rattle.std.specs.{Prelude.◌≡◌, Prelude.◌≢◌, Prelude.Result, Prelude.Ok, Prelude.Err, Prelude.String, declared.alloc.Global.Global}
use Rattle.v7tools.specs.declared.fault.CliFault.{CliFault}
use Rattle.v7tools.specs.declared.fault.CliFault.TheVariants as faults

-- what `read_file` returned
abbrev pub read_of : Result (String Global × Contents) CliFault → Result Contents ReadFault
read_of (Ok loaded) = Ok loaded.1
read_of (Err (faults.BadFile path fault)) = Err fault
read_of (Err _) = Err (reads.Memory refused)

-- the path comes back with the file, or is in the fault; that there was no memory is a fault of its own
abbrev pub IsAtPath : String Global → Result (String Global × Contents) CliFault → Type 0
IsAtPath path (Ok loaded) = loaded.0 ≡ path
IsAtPath path (Err (faults.BadFile at fault)) = (at ≡ path) × (fault ≢ reads.Memory refused)
IsAtPath path (Err (faults.Memory _)) = Unit {0}
IsAtPath path (Err _) = ⊥
