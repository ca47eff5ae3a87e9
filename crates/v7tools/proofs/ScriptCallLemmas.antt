-- What a call of a script returned, and what its lines gave.
use Rattle.std.proofs.Common.{◌≡◌, ◌↔◌, ◌∙◌, Option, Some, None, Result, Ok, Err, refl, ap}
use Rattle.command_words.specs.{ScriptAnswers.Answer, declared.lines.Line.Line}
use Rattle.command_words.specs.declared.line_reader.Stop.TheVariants as stops
use Rattle.v7tools.specs.{ScriptCalls.returned, declared.fault.CliFault.CliFault}
use Rattle.v7tools.specs.declared.fault.CliFault.TheVariants as faults

read_failed : (answer : Answer) → returned answer ≡ Err faults.ScriptFailed → answer ≡ Err stops.ReadFailed
read_failed (Err stops.ReadFailed) e = refl
read_failed answer e = absurd (cc)

-- it is a fault of the script exactly where its reader failed
pub failed_as : {P : Type 0} {result : Result (Option Line) CliFault} (answer : Answer) → result ≡ returned answer →
    (answer ≡ Err stops.ReadFailed ↔ P) → (result ≡ Err faults.ScriptFailed ↔ P)
failed_as answer is failed = (λ e. failed.0 (read_failed answer (cc)), λ p. is ∙ ap returned (failed.1 p))

-- a line was returned
pub gave_line : {x : Option Line} (answer : Answer) (it : Line) → Ok x ≡ returned answer → x ≡ Some it → answer ≡ Ok it
gave_line (Ok line) it e some = cc
gave_line (Err stops.End) it e some = absurd (cc)
gave_line (Err stop) it e some = absurd (cc)

-- the end was returned
pub gave_end : {x : Option Line} (answer : Answer) → Ok x ≡ returned answer → x ≡ None → answer ≡ Err stops.End
gave_end (Ok line) e none = absurd (cc)
gave_end (Err stops.End) e none = refl
gave_end (Err stop) e none = absurd (cc)
