-- What private functions return.
use Rattle.std.specs.{declared.alloc.Global.Global, Prelude.{◌≢◌, List, Result, Ok, Err, Vec}}
use Rattle.aout_core.specs.Refusals.{refused}
use Rattle.gnu_objects.specs.declared.refusal.Refusal.{Refusal}
use Rattle.gnu_objects.specs.declared.refusal.Refusal.TheVariants as refusals
use Rattle.host.specs.{Answers.Ends, declared.answer.Fault.Fault, declared.answer.Fault.TheVariants.Answered, declared.answer.Fault.TheVariants.Memory}

abbrev pub listed : {A E : Type 0} → Result (Vec A Global) E → Result (List A) E
listed (Ok v) = Ok v.items
listed (Err e) = Err e

-- a file is refused, and not for want of memory
abbrev pub RefusedAs : Refusal → Fault → Type 0
RefusedAs refusal (Answered a) = (refusal ≢ refusals.Memory refused) × Ends 1 a
RefusedAs refusal (Memory _) = Unit {0}
