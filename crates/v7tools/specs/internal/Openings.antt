-- What is opened before a link is made, and read before a list is written.
use Rattle.std.specs.Prelude.{◌≡◌, ℕ, false, List, [], map, Option, Result, Ok, Err, String, string_bytes, Vec}
use Rattle.std.specs.{declared.alloc.Global.Global, List.AllByRecursion}
use Rattle.aout_core.specs.Wires.{Latched}
use Rattle.host.specs.Events.{History, Extends, Opened, opens}
use Rattle.v7tools.specs.{declared.fault.CliFault.CliFault, LinkRuns.StopsAt, FileRuns.Loaded, FileRuns.ReadsAll, FileRuns.ReadsNotAll}
use Rattle.v7tools.specs.declared.fault.CliFault.TheVariants as faults

-- the inputs, with what is known of their bytes
abbrev pub sources : {R : Type 0} → (R → Option (List ℕ)) → List (String Global × Latched R) → List Opened
sources remaining inputs = map (λ i. (string_bytes i.0, remaining i.1.device)) inputs

-- the wire of an input has not failed
abbrev pub IsWorking : {R : Type 0} → String Global × Latched R → Type 0
IsWorking i = i.1.has_failed ≡ false

-- all files were opened in order, and none of their wires has failed
abbrev pub OpensAll : {R : Type 0} → (R → Option (List ℕ)) → History → History → List (String Global) →
    List (String Global × Latched R) → Type 0
OpensAll remaining old new files inputs =
    Extends old new (opens (sources remaining inputs)) × (files ≡ map (λ i. i.0) inputs) × AllByRecursion IsWorking inputs

-- all files were opened, or those up to the first that can't be; memory runs out only before
abbrev pub IsOpening : {R : Type 0} → (R → Option (List ℕ)) → History → History → List (String Global) →
    Result (Vec (String Global × Latched R) Global) CliFault → Type 0
IsOpening remaining old new files (Ok inputs) = OpensAll remaining old new files inputs.items
IsOpening remaining old new files (Err (faults.CannotOpen path)) = StopsAt old new (map string_bytes files) (string_bytes path)
IsOpening remaining old new files (Err (faults.Memory _)) = Extends old new []
IsOpening remaining old new files (Err _) = ⊥

abbrev pub IsLoading : History → History → List (String Global) → Result (Vec Loaded Global) CliFault → Type 0
IsLoading old new files (Ok loaded) = ReadsAll old new files loaded.items
IsLoading old new files (Err fault) = ReadsNotAll old new files fault
