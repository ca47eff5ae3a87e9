-- What came of adding the file at a path.
use Rattle.std.proofs.Common.{rules, ◌≡◌, ℕ, List, Option, Some, None, Result, Ok, Err, refl, sym, ap, ◌∙◌, inl, inr}
use Rattle.aout_core.specs.{Refusals.device_fault, Refusals.refused, declared.file.ReadFault.ReadFault, Contents.Contents}
use Rattle.aout_core.specs.{Decoding.decode, Reading.IsReadOf, Reading.LeavesAfter}
use Rattle.aout_core.specs.declared.file.ReadFault.TheVariants as reads
use Rattle.std.specs.{declared.alloc.Global.Global, Prelude.String, Prelude.IfSome}
use Rattle.link_session.specs.Sessions.{Adds, IsCause, labelled}
use Rattle.link_session.specs.{declared.entry.AddFault.AddFault, Limits.refusal, Labelled.objects, Undo.Kept}
use Rattle.link_session.specs.declared.entry.AddFault.TheVariants as adds
use Rattle.v7tools.specs.{declared.fault.CliFault.CliFault, FaultTexts.fault_of_addition, Loads.read_of, Loads.IsAtPath}
use Rattle.v7tools.specs.{internal.InputParts.IsCheckOf, internal.StepParts.IsFound, internal.StepParts.IsAddition}
use Rattle.v7tools.specs.declared.fault.CliFault.TheVariants as faults
use Rattle.link_out.specs.Inputs.{Cause, bad_file, bad_object, not_added, object_in}

-- ---- what was read

-- what the reader says of the bytes, where they are known
abbrev IsReadWhereKnown : Option (List ℕ) → Option (List ℕ) → Result Contents ReadFault → Type 0
IsReadWhereKnown known left r = IfSome known (λ bytes. IsReadOf r bytes × LeavesAfter r bytes left)

-- what the bytes encode, where they are known
found_at : (known left : Option (List ℕ)) (r : Result Contents ReadFault) (found : Result Contents Cause) →
    object_in r ≡ found → ((bytes : List ℕ) → IsReadOf r bytes → decode bytes ≡ r) →
    IsReadWhereKnown known left r → IfSome known (λ bytes. found ≡ object_in (decode bytes))
found_at None left r found is encodes h = tt
found_at (Some bytes) left r found is encodes h = sym is ∙ ap object_in (sym (encodes bytes h.0))

-- ---- why a file is not added

-- a file that is none
bad_read : (known left : Option (List ℕ)) (old : Kept) (path at : String Global) (fault : ReadFault) → at ≡ path →
    ((bytes : List ℕ) → IsReadOf (Err fault) bytes → decode bytes ≡ Err fault) →
    IsReadWhereKnown known left (Err fault) → IsAddition known old old path (Err (faults.BadFile at fault))
bad_read known left old path at fault same encodes read = (
  refl,
  inr (record {
    found = Err (bad_file fault);
    cause = bad_file fault;
    is_found = inr (found_at _ _ _ _ refl encodes read);
    refuses = refl;
    names = ap (λ (p : String Global). faults.BadFile p fault) same;
  }),
)

failed_read : (known : Option (List ℕ)) (old : Kept) (path at : String Global) → at ≡ path →
    IsAddition known old old path (Err (faults.BadFile at (reads.Device device_fault)))
failed_read known old path at same = (
  refl,
  inr (record {
    found = Err (bad_file (reads.Device device_fault));
    cause = bad_file (reads.Device device_fault);
    is_found = inl refl;
    refuses = refl;
    names = ap (λ (p : String Global). faults.BadFile p (reads.Device device_fault)) same;
  }),
)

pub addition_unread : (known left : Option (List ℕ)) (old : Kept) (path : String Global) (fault : CliFault) →
    IsAtPath path (Err fault) → IsReadWhereKnown known left (read_of (Err fault)) → IsAddition known old old path (Err fault)
addition_unread known left old path (faults.BadFile at (reads.Device _)) a h = failed_read known old path at a.0
addition_unread known left old path (faults.BadFile at (reads.Memory _)) a h = absurd (a.1 refl)
addition_unread known left old path (faults.BadFile at fault) a h = bad_read known left old path at fault a.0 (λ bytes read. read) h
addition_unread known left old path (faults.Memory _) a h = search rules
addition_unread known left old path fault a h = absurd a

-- a file that is no object
pub addition_unchecked : (known left : Option (List ℕ)) (old : Kept) (path p : String Global) (c : Contents) (fault : CliFault) →
    p ≡ path → IsReadWhereKnown known left (Ok c) → IsCheckOf p c (Err fault) → IsAddition known old old path (Err fault)
addition_unchecked known left old path p c fault same read (cause, is, bad) = (
  refl,
  inr (record {
    found = Err (bad_object cause);
    cause = bad_object cause;
    is_found = search rules;
    refuses = refl;
    names = is ∙ ap (λ (q : String Global). faults.BadObject q cause) same;
  }),
)

-- an object that was read at a path
pub read_object : (known left : Option (List ℕ)) (p q : String Global) (c o : Contents) →
    IsReadWhereKnown known left (Ok c) → IsCheckOf p c (Ok (q, o)) → IsFound known (Ok o)
read_object known left p q c o read checked = search rules

-- an object that is not added
not_fit : (known : Option (List ℕ)) (old new : Kept) (path label : String Global) (o : Contents) (cause : AddFault) →
    IsFound known (Ok o) → label ≡ path → IsCause (refusal old.forced (objects old.entries) o) cause →
    (cause ≡ adds.Memory refused → ⊥) → new ≡ old → IsAddition known old new path (Err (faults.NotAdded label cause))
not_fit known old new path label o cause is_found same why real unchanged = (
  unchanged,
  inr (record {
    found = Ok o;
    cause = not_added cause;
    is_found = is_found;
    refuses = search rules;
    names = ap (λ (p : String Global). faults.NotAdded p cause) same;
  }),
)

-- an object that was read at a path is refused
pub addition_refused : (known : Option (List ℕ)) (old new : Kept) (path label : String Global) (o : Contents) (cause : AddFault) →
    IsFound known (Ok o) → label ≡ path →
    IsCause (refusal old.forced (objects old.entries) o) cause → new ≡ old →
    IsAddition known old new path (Err (fault_of_addition label cause))
addition_refused known old new path label o (adds.Memory _) found same why unchanged = search rules
addition_refused known old new path label o cause found same why unchanged = search (rules, not_fit)

-- it is added
pub addition_made : (known : Option (List ℕ)) (old new : Kept) (path label : String Global) (o : Contents) →
    IsFound known (Ok o) → label ≡ path → refusal old.forced (objects old.entries) o ≡ None →
    Adds old new (labelled label o) → IsAddition known old new path (Ok tt)
addition_made known old new path label o found same within adds = search rules

-- an addition leaves the forced names
pub forced_kept : (known : Option (List ℕ)) (old new : Kept) (path : String Global) (r : Result (Unit {0}) CliFault) →
    IsAddition known old new path r → new.forced ≡ old.forced
forced_kept known old new path (Ok x) (object, h) = h.adds.forced
forced_kept known old new path (Err fault) (same, why) = ap (λ (k : Kept). k.forced) same
