-- The texts of faults.
--
-- Each fault has one text, which the program writes after `v7: `, and a session without it. A fault of a file begins with its path.
use Rattle.aout_core.specs.{Refusals.{device_fault, refused}, declared.file.ReadFault.ReadFault, FaultTexts.{object_text, read_text}}
use Rattle.aout_core.specs.declared.file.ReadFault.TheVariants as reads
use Rattle.std.specs.{Prelude.{ℕ, List, ◌++◌, codes, String, string_bytes, [], ◌∷◌}, declared.alloc.Global.Global}
use Rattle.link_session.specs.{declared.entry.AddFault.AddFault, FaultTexts.add_text}
use Rattle.link_session.specs.declared.entry.AddFault.TheVariants as adds
use Rattle.link_out.specs.Inputs.{Cause, cannot_open, bad_file, bad_object, not_added}
use Rattle.link_out.specs.{declared.linked.LinkFault.LinkFault, FaultTexts.link_text}
use Rattle.link_out.specs.declared.linked.LinkFault.TheVariants as links
use Rattle.symtools.specs.declared.fault.ToolFault.{ToolFault}
use Rattle.symtools.specs.declared.fault.ToolFault.TheVariants as tools
use Rattle.v7tools.specs.declared.fault.CliFault.{CliFault}
use Rattle.v7tools.specs.declared.fault.CliFault.TheVariants as faults

abbrev pub no_memory : List ℕ
no_memory = codes "no memory"

-- a fault of a file, named by its path
abbrev pub at_file : List ℕ → List ℕ → List ℕ
at_file path text = path ++ codes ": " ++ text

-- if memory runs out, that is not said of the file
abbrev pub file_text : List ℕ → ReadFault → List ℕ
file_text path (reads.Memory _) = no_memory
file_text path fault = at_file path (read_text fault)

abbrev pub addition_text : List ℕ → AddFault → List ℕ
addition_text path (adds.Memory _) = no_memory
addition_text path fault = at_file path (add_text fault)

abbrev pub cause_text : List ℕ → Cause → List ℕ
cause_text path cannot_open = at_file path (codes "cannot open")
cause_text path (bad_file fault) = file_text path fault
cause_text path (bad_object fault) = at_file path (object_text fault)
cause_text path (not_added fault) = addition_text path fault

-- the text of a fault of the program, without the `v7: ` that its line begins with
abbrev pub cli_text : CliFault → List ℕ
cli_text faults.Usage = codes "usage"
cli_text (faults.CannotOpen path) = at_file (string_bytes path) (codes "cannot open")
cli_text (faults.BadFile path fault) = file_text (string_bytes path) fault
cli_text (faults.BadObject path fault) = at_file (string_bytes path) (object_text fault)
cli_text (faults.NotAdded path fault) = addition_text (string_bytes path) fault
cli_text (faults.NotLinked fault) = link_text fault
cli_text (faults.CannotCreate path) = at_file (string_bytes path) (codes "cannot create")
cli_text (faults.WriteFailed _) = codes "write error"
cli_text (faults.Memory _) = no_memory
cli_text faults.LongLine = codes "line too long"
cli_text faults.ManyLines = codes "too many lines"
cli_text faults.ScriptFailed = codes "script read error"

-- its line
abbrev pub fault_line : CliFault → List ℕ
fault_line fault = codes "v7: " ++ cli_text fault ++ 10 ∷ []

-- the fault of the program if the file at a path is not taken
abbrev pub fault_at : String Global → Cause → CliFault
fault_at path cannot_open = faults.CannotOpen path
fault_at path (bad_file fault) = faults.BadFile path fault
fault_at path (bad_object fault) = faults.BadObject path fault
fault_at path (not_added fault) = faults.NotAdded path fault

-- the fault of the program if an object at a path was not added
abbrev pub fault_of_addition : String Global → AddFault → CliFault
fault_of_addition path (adds.Memory _) = faults.Memory refused
fault_of_addition path fault = faults.NotAdded path fault

-- the fault of the program if there is no link
abbrev pub fault_of_link : LinkFault → CliFault
fault_of_link (links.Memory _) = faults.Memory refused
fault_of_link fault = faults.NotLinked fault

-- the fault of the program if a list was not written
abbrev pub fault_of_tool : ToolFault → CliFault
fault_of_tool (tools.Memory _) = faults.Memory refused
fault_of_tool (tools.Device _) = faults.WriteFailed device_fault
