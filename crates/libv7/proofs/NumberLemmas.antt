-- No cause but that memory ran out has its number.
use Rattle.std.proofs.Common.{◌≡◌, ℕ, false, true, eqb, ap, rules}
use Rattle.aout_core.specs.{Refusals.refused, declared.object.ObjectFault.ObjectFault}
use Rattle.listings.specs.declared.fault.Reason.{Reason}
use Rattle.libv7.specs.{declared.cause.Cause.Cause, declared.cause.Cause.TheVariants.Memory}
use Rattle.libv7.specs.Causes.{gnu_code, number_of, object_code, reason_number}
use Rattle.gnu_objects.specs.declared.refusal.Refusal as gnu

other_object : (fault : ObjectFault) → eqb (object_code fault).0 50 ≡ false
other_object fault = search rules

other_reason : (reason : Reason) → eqb (reason_number reason) 50 ≡ false
other_reason reason = search rules

other_gnu : (refusal : gnu.Refusal) → eqb (gnu_code refusal).0 50 ≡ false
other_gnu refusal = search (rules, other_object)

by_test : (cause : Cause) → eqb (number_of cause) 50 ≡ true → cause ≡ Memory refused
by_test cause h = search (rules, other_object, other_reason, other_gnu)

pub only_memory : (cause : Cause) → number_of cause ≡ 50 → cause ≡ Memory refused
only_memory cause h = by_test cause (ap (λ (n : ℕ). eqb n 50) h)
