-- What is remarked, by what is found.
use Rattle.std.proofs.Common.{◌≡◌, ℕ, List, [], true, Option, Some, None, Result, Ok, Err, IfOk, subst, sym}
use Rattle.std.specs.declared.alloc.AllocError.{AllocError}
use Rattle.aout_core.specs.{Contents.Contents, Decoding.decode, WellFormed.first_object_fault, declared.file.ReadFault.ReadFault}
use Rattle.aout_core.specs.declared.header.Header.{Header}
use Rattle.checks.specs.{Found.Found, Found.each_found, Wrong.wrong_bytes, Wrong.wrong_in, declared.finding.Finding.Finding}
use Rattle.checks.specs.{Suspicions.all_odd, declared.evidence.Evidence.TheVariants.Flow}
use Rattle.libv7.specs.RemarkAnswers.{IsRemarked, IsRemarkedBy, IsRemarkedOf, Output, remarked_by, remarks_in}
use Rattle.libv7.specs.{declared.remarks_call.RemarkRecord.RemarkRecord, declared.remarks_call.Remarks.Remarks}

pub by_findings : (h : Option Header) (wrong odd : List Finding) (found more : List Found) (r : Result Remarks AllocError) →
    each_found wrong ≡ found → each_found odd ≡ more → IfOk r (λ x. remarks_in x ≡ remarked_by h wrong odd) →
    IfOk r (λ x. IsRemarkedBy h found more (remarks_in x))
by_findings h wrong odd found more (Ok x) a b e = record { wrong = wrong; odd = odd; are_wrong = a; are_odd = b; remarked = e }
by_findings h wrong odd found more (Err error) a b e = tt

-- the bytes begin with a file, or do not
pub file_remarked : (bytes : List ℕ) (c : Contents) (x : Output RemarkRecord) → decode bytes ≡ Ok c →
    IsRemarkedBy (Some c.header) (wrong_in (first_object_fault c) c) (all_odd Flow true bytes c) x → IsRemarked bytes x
file_remarked bytes c x is h = subst (λ (read : Result Contents ReadFault). IsRemarkedOf bytes read x) (sym is) h

pub bytes_remarked : (bytes : List ℕ) (fault : ReadFault) (x : Output RemarkRecord) → decode bytes ≡ Err fault →
    IsRemarkedBy None (wrong_bytes fault bytes) [] x → IsRemarked bytes x
bytes_remarked bytes fault x is h = subst (λ (read : Result Contents ReadFault). IsRemarkedOf bytes read x) (sym is) h

pub ruleset by_decoding = (file_remarked, bytes_remarked)
