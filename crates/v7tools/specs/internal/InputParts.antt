-- What becomes of the inputs of a link, one by one.
use Rattle.std.specs.{declared.alloc.Global.Global, Prelude.{◌≡◌, ◌⊎◌, ℕ, List, [], ◌∷◌, Bool, Option, Some, None, option_map, Result, Ok, Err, IsOk, String}}
use Rattle.aout_core.specs.{declared.object.ObjectFault.ObjectFault, Contents.Contents, WellFormed.first_object_fault, Wires.Latched}
use Rattle.link_session.specs.{Labelled.Labelled, Undo.Kept}
use Rattle.link_out.specs.{declared.linked.Linked.Linked, declared.linked.LinkFault.LinkFault, function.Link.Outcome, Outcomes.outcome_of}
use Rattle.link_out.specs.declared.linked.LinkFault.TheVariants as links
use Rattle.v7tools.specs.{declared.fault.CliFault.CliFault, LinkAnswers.{Input, Said, never, said_by, StopsAt, Takes, TakesAll}}
use Rattle.v7tools.specs.declared.fault.CliFault.TheVariants as faults

-- a fault that may come from a link
abbrev pub IsPossible : Said → Type 0
IsPossible never = ⊥
IsPossible _ = Unit {0}

-- a fault without the wire that comes back with it
abbrev pub without_wire : {R : Type 0} → Result (Unit {0}) (CliFault × Latched R) → Result (Unit {0}) CliFault
without_wire (Ok x) = Ok x
without_wire (Err refused) = Err refused.0

-- a link without the session that comes with it, or a fault without the wire
abbrev pub without_session : {R : Type 0} → Result (Linked × Kept) (CliFault × Option (Latched R)) → Result Linked CliFault
without_session (Ok made) = Ok made.0
without_session (Err refused) = Err refused.0

-- whether a link stopped at an input, on a wire that has failed or has not
abbrev pub stopped_at : {R : Type 0} → Option (Latched R) → Option Bool
stopped_at stopped = option_map (λ wire. wire.has_failed) stopped

-- the inputs before one are taken, which leaves these objects, and the link stops at that one
abbrev pub StopsWith : List (List ℕ) → List Labelled → List Input → Said → List Labelled → Type 0
StopsWith forced kept [] said left = ⊥
StopsWith forced kept (i ∷ is) said left =
    ((left ≡ kept) × StopsAt forced kept i said)
    ⊎ ((next : List Labelled) × Takes forced kept i next × StopsWith forced next is said left)

-- the inputs were taken, or the link stops at one of them, with those before it taken
abbrev pub AreTaken : Kept → Kept → List Input → Result (Unit {0}) CliFault → Type 0
AreTaken old new inputs (Ok _) = TakesAll old.forced old.entries inputs new.entries
AreTaken old new inputs (Err fault) = StopsWith old.forced old.entries inputs (said_by fault) new.entries

-- the link of what was taken, or its refusal; memory ran out only if there is a link
abbrev pub IsFinalLink : Result Outcome LinkFault → Result Linked CliFault → Type 0
IsFinalLink x (Ok l) = x ≡ Ok (outcome_of l)
IsFinalLink x (Err (faults.Memory _)) = IsOk x
IsFinalLink x (Err (faults.NotLinked (links.Memory _))) = ⊥
IsFinalLink x (Err (faults.NotLinked fault)) = x ≡ Err fault
IsFinalLink x (Err _) = ⊥

-- an object, or why the file is not one
abbrev pub IsCheckOf : String Global → Contents → Result (String Global × Contents) CliFault → Type 0
IsCheckOf path c (Ok r) = (r.0 ≡ path) × (r.1 ≡ c) × (first_object_fault c ≡ None)
IsCheckOf path c (Err fault) = (cause : ObjectFault) × (fault ≡ faults.BadObject path cause) × (first_object_fault c ≡ Some cause)
