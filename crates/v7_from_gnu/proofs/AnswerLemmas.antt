-- Faults that stop a conversion.
use Rattle.std.proofs.{Common.{ℕ, Bool, true, false}, lemmas.Bool.false≢true}
use Rattle.std.specs.Prelude.{◌||◌}
use Rattle.host.specs.{Answers.Stops, declared.answer.Fault.Fault, declared.answer.Fault.TheVariants.{Answered, Memory}}

-- it stops for one of several
pub stops_or : (s t : Bool) (status : ℕ) (fault : Fault) → Stops s status fault → Stops (s || t) status fault
stops_or true t status fault h = h
stops_or false t status (Answered a) h = absurd (false≢true h.0)
stops_or false t status (Memory r) h = tt
