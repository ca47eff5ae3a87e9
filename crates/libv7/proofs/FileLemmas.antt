-- The file that bytes begin with.
use Rattle.std.proofs.{Common.{◌≡◌, ℕ, ◌<◌, List, Result, Ok, Err, refl, Option, Some, None, ap, ◌∙◌}, lemmas.Bool.false≢true}
use Rattle.std.specs.Prelude.{◌≢◌, IfErr, IsOk}
use Rattle.aout_core.specs.{Contents.Contents, Decoding.decode, Decoding.header_in, Encoding.file_length, declared.file.ReadFault.ReadFault}
use Rattle.aout_core.specs.{Refusals.refused, WellFormed.first_object_fault, declared.object.ObjectFault.ObjectFault}
use Rattle.link_out.specs.Steps.{and_then, refused_as, unless}
use Rattle.link_out.specs.Inputs as inputs
use Rattle.libv7.specs.{declared.cause.Cause.Cause, Causes.cause_of_input, MemoryWanted.HasBody}
use Rattle.libv7.specs.{FileAnswers.{file_in, object_in, object_of}, declared.cause.Cause.TheVariants.{BadFile, BadObject, Memory}}

is_whole : (r : Result Contents ReadFault) → IsOk r → IsOk (refused_as BadFile r)
is_whole (Ok c) h = refl
is_whole (Err fault) h = absurd (false≢true h)

pub has_body : (bytes : List ℕ) → IsOk (decode bytes) → 16 < file_length (header_in bytes) → HasBody bytes
has_body bytes whole more = record { whole = is_whole (decode bytes) whole; more = more }

-- an object is a file whose words are right
pub object_is : (bytes : List ℕ) → object_in bytes ≡ and_then (file_in bytes) object_of
object_is bytes = by_file (decode bytes)
  where
    by_fault : (c : Contents) (fault : Option ObjectFault) →
        refused_as cause_of_input (unless inputs.bad_object fault c) ≡ unless BadObject fault c
    by_fault c None = refl
    by_fault c (Some fault) = refl

    by_file : (r : Result Contents ReadFault) → refused_as cause_of_input (inputs.object_in r) ≡ and_then (refused_as BadFile r) object_of
    by_file (Ok c) = by_fault c (first_object_fault c)
    by_file (Err fault) = refl

pub object_read : (bytes : List ℕ) (c : Contents) (r : Result Contents Cause) → decode bytes ≡ Ok c → object_of c ≡ r → object_in bytes ≡ r
object_read bytes c r read is =
    object_is bytes ∙ ap (λ (f : Result Contents ReadFault). and_then (refused_as BadFile f) object_of) read ∙ is

pub object_unread : (bytes : List ℕ) (cause : Cause) → file_in bytes ≡ Err cause → object_in bytes ≡ Err cause
object_unread bytes cause unread = object_is bytes ∙ ap (λ (f : Result Contents Cause). and_then f object_of) unread

pub object_refused : (bytes : List ℕ) (c : Contents) (r : Result Contents Cause) → decode bytes ≡ Ok c →
    IfErr r (λ cause. object_of c ≡ Err cause) → IfErr r (λ cause. cause ≢ Memory refused → object_in bytes ≡ Err cause)
object_refused bytes c (Ok o) read h = tt
object_refused bytes c (Err cause) read h = λ other. object_read bytes c (Err cause) read h
