-- What a call of a script returns: what the reader of its lines gives, with the end and the faults of the program.
use Rattle.aout_core.specs.Refusals.{refused}
use Rattle.std.specs.Prelude.{◌≡◌, ℕ, List, Option, Some, None, Result, Ok, Err}
use Rattle.command_words.specs.{ScriptAnswers.Answer, ScriptAnswers.GivesNext, ScriptAnswers.Progress, declared.lines.Line.Line}
use Rattle.command_words.specs.declared.line_reader.Stop.TheVariants as stops
use Rattle.v7tools.specs.declared.fault.CliFault.{CliFault}
use Rattle.v7tools.specs.declared.fault.CliFault.TheVariants as faults

-- the line, the end, or the fault
abbrev pub returned : Answer → Result (Option Line) CliFault
returned (Ok line) = Ok (Some line)
returned (Err stops.End) = Ok None
returned (Err stops.LongLine) = Err faults.LongLine
returned (Err stops.ManyLines) = Err faults.ManyLines
returned (Err stops.ReadFailed) = Err faults.ScriptFailed
returned (Err (stops.Memory _)) = Err (faults.Memory refused)

-- a call returned what the lines give next
abbrev pub ReturnsNext : {R : Type 0} → (R → Option (List ℕ)) → Progress R → Progress R → Result (Option Line) CliFault → Type 0
ReturnsNext remaining old new result = (answer : Answer) × (result ≡ returned answer) × GivesNext remaining old new answer
