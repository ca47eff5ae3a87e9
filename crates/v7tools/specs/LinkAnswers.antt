-- Which results a link of files may have, by its inputs.
--
-- The inputs are taken one after another, each by its bytes if these are known, and then linked. The link stops at the first that is
-- refused, or whose device fails, or for which memory runs out. So if all bytes are known the result is the link of these bytes
-- or the first refusal, unless a device fails or memory runs out.
--
-- At each stage (forced names, the header of an input, the addition of its object, the final link) `Memory` is returned only if nothing
-- at that stage is refused. The result does not reveal which stage ran out: once an object has been accepted, memory may have run out
-- there. So for the result as a whole only the first input can rule out `Memory`.
use Rattle.aout_core.specs.{Refusals.refused, Contents.Contents, Decoding.decode, Reading.IsReadOf, Wires.Latched}
use Rattle.aout_core.specs.declared.file.ReadFault.TheVariants as reads
use Rattle.std.specs.declared.alloc.Global.{Global}
use Rattle.std.specs.Prelude.{◌≡◌, ◌⊎◌, ℕ, Bool, false, List, [], ◌∷◌, map, Option, Some, option_and_then, option_map, Result, Ok, Err}
use Rattle.std.specs.Prelude.{IfSome, IsOk, String, string_bytes}
use Rattle.link_session.specs.Labelled.{Labelled, objects}
use Rattle.link_session.specs.declared.entry.AddFault.TheVariants as adds
use Rattle.link_out.specs.{declared.linked.Linked.Linked, declared.linked.LinkFault.LinkFault, function.Link.Outcome, function.Link.link}
use Rattle.link_out.specs.{Outcomes.outcome_of, Inputs.Cause, Inputs.bad_file, Inputs.bad_object, Inputs.not_added, Inputs.Refusal}
use Rattle.link_out.specs.{Inputs.of_input, Inputs.not_linked, Inputs.object_in, Inputs.kept_with, Inputs.with_input, Inputs.linked}
use Rattle.link_out.specs.declared.linked.LinkFault.TheVariants as links
use Rattle.tool_options.specs.Choices.{Choices}
use Rattle.v7tools.specs.declared.fault.CliFault.{CliFault}
use Rattle.v7tools.specs.declared.fault.CliFault.TheVariants as faults

-- an input: its path, its bytes if they are known, and whether its device has failed before
pub record Input : Type 0 where
  pub path : List ℕ
  pub known : Option (List ℕ)
  pub has_failed : Bool

abbrev pub inputs_of : {R : Type 0} → (R → Option (List ℕ)) → List (String Global × Latched R) → List Input
inputs_of remaining inputs = map (λ i. record { path = string_bytes i.0; known = remaining i.1.device; has_failed = i.1.has_failed }) inputs

-- ---- what a fault means

-- a refusal, that the device at a path failed, or that memory ran out
pub data Said : Type 0 where
  refuses : Refusal → Said
  breaks : List ℕ → Said
  runs_out : Said
  never : Said

-- no other fault than these comes from a link
abbrev pub said_by : CliFault → Said
said_by (faults.BadFile path (reads.Device _)) = breaks (string_bytes path)
said_by (faults.BadFile path (reads.Memory _)) = never
said_by (faults.BadFile path fault) = refuses (of_input (string_bytes path) (bad_file fault))
said_by (faults.BadObject path fault) = refuses (of_input (string_bytes path) (bad_object fault))
said_by (faults.NotAdded path (adds.Memory _)) = never
said_by (faults.NotAdded path fault) = refuses (of_input (string_bytes path) (not_added fault))
said_by (faults.NotLinked (links.Memory _)) = never
said_by (faults.NotLinked fault) = refuses (not_linked fault)
said_by (faults.Memory _) = runs_out
said_by _ = never

-- a device failed
abbrev pub IsDeviceFault : CliFault → Type 0
IsDeviceFault (faults.BadFile path (reads.Device _)) = Unit {0}
IsDeviceFault _ = ⊥

-- ---- input by input

-- an input is taken: its object is appended to those that are kept
pub record Takes (forced : List (List ℕ)) (kept : List Labelled) (i : Input) (more : List Labelled) : Type 0 where
  pub works : i.has_failed ≡ false
  pub object : Contents
  pub is_found : IfSome i.known (λ bytes. Ok object ≡ object_in (decode bytes))
  pub accepts : kept_with forced kept i.path (Ok object) ≡ Ok more

-- an input is refused, for this cause
pub record Rejects (forced : List (List ℕ)) (kept : List Labelled) (i : Input) (cause : Cause) : Type 0 where
  pub works : i.has_failed ≡ false
  pub found : Result Contents Cause
  pub is_found : IfSome i.known (λ bytes. found ≡ object_in (decode bytes))
  pub rejects : kept_with forced kept i.path found ≡ Err cause

-- memory is wanted for a file of these bytes: for what its header announces, or to add its object, which is within all limits
abbrev pub WantsMemory : List (List ℕ) → List Labelled → List ℕ → List ℕ → Type 0
WantsMemory forced kept path bytes = IsReadOf (Err (reads.Memory refused)) bytes ⊎ IsOk (with_input forced kept path bytes)

-- the link stops at an input, after those that are kept
abbrev pub StopsAt : List (List ℕ) → List Labelled → Input → Said → Type 0
StopsAt forced kept i (refuses (of_input path cause)) = (path ≡ i.path) × Rejects forced kept i cause
StopsAt forced kept i (breaks path) = path ≡ i.path
StopsAt forced kept i runs_out = (i.has_failed ≡ false) × IfSome i.known (WantsMemory forced kept i.path)
StopsAt forced kept i _ = ⊥

-- all inputs are taken
abbrev pub TakesAll : List (List ℕ) → List Labelled → List Input → List Labelled → Type 0
TakesAll forced kept [] more = more ≡ kept
TakesAll forced kept (i ∷ is) more = (next : List Labelled) × Takes forced kept i next × TakesAll forced next is more

-- the inputs before one are taken, and the link stops at that one
abbrev pub StopsIn : List (List ℕ) → List Labelled → List Input → Said → Type 0
StopsIn forced kept [] said = ⊥
StopsIn forced kept (i ∷ is) said =
    StopsAt forced kept i said ⊎ ((next : List Labelled) × Takes forced kept i next × StopsIn forced next is said)

-- ---- the link

-- the objects are refused as a whole
abbrev pub HasNoLink : Result Outcome LinkFault → Said → Type 0
HasNoLink x (refuses (not_linked fault)) = x ≡ Err fault
HasNoLink x _ = ⊥

-- all inputs are taken, and linked
pub record LinksAll (forced : List (List ℕ)) (o : Choices) (inputs : List Input) (l : Linked) : Type 0 where
  pub kept : List Labelled
  pub taken : TakesAll forced [] inputs kept
  pub link : link forced (objects kept) o ≡ Ok (outcome_of l)

-- all inputs are taken, and there is no link of them
pub record LinksNone (forced : List (List ℕ)) (o : Choices) (inputs : List Input) (said : Said) : Type 0 where
  pub kept : List Labelled
  pub taken : TakesAll forced [] inputs kept
  pub none : HasNoLink (link forced (objects kept) o) said

-- memory may run out for forced names, or if there are none, at the first input, if that wants memory, or if there is no input either,
-- for the link of nothing. No more is known: once an object has been accepted, memory may have run out there
abbrev pub MayLackMemory : List (List ℕ) → List Input → Type 0
MayLackMemory [] [] = Unit {0}
MayLackMemory [] (i ∷ is) = StopsAt [] [] i runs_out
MayLackMemory (name ∷ names) is = Unit {0}

-- memory may have run out, or the link stops at an input, or there is no link of all
abbrev pub IsNotLinked : List (List ℕ) → Choices → List Input → Said → Type 0
IsNotLinked forced o inputs runs_out = MayLackMemory forced inputs
IsNotLinked forced o inputs said = StopsIn forced [] inputs said ⊎ LinksNone forced o inputs said

-- there is a link, or why there is none
abbrev pub IsLinkOver : List (List ℕ) → Choices → List Input → Result Linked CliFault → Type 0
IsLinkOver forced o inputs (Ok l) = LinksAll forced o inputs l
IsLinkOver forced o inputs (Err fault) = IsNotLinked forced o inputs (said_by fault)

-- ---- if all bytes are known

-- the paths of the inputs with their bytes, if all are known
abbrev pub known_inputs : List Input → Option (List (List ℕ × List ℕ))
known_inputs [] = Some []
known_inputs (i ∷ is) = option_and_then (λ bytes. option_map (λ rest. (i.path, bytes) ∷ rest) (known_inputs is)) i.known

-- a refusal is what the bytes give; that a device failed or that memory ran out does not follow from them
abbrev pub IsTrueOf : {A : Type 0} → Said → Result A Refusal → Type 0
IsTrueOf (refuses r) answer = answer ≡ Err r
IsTrueOf (breaks path) answer = Unit {0}
IsTrueOf runs_out answer = Unit {0}
IsTrueOf never answer = ⊥

-- the link of the bytes, or the first refusal
abbrev pub IsLinkOfBytes : List (List ℕ) → Choices → List (List ℕ × List ℕ) → Result Linked CliFault → Type 0
IsLinkOfBytes forced o inputs (Ok l) = linked forced inputs o ≡ Ok (outcome_of l)
IsLinkOfBytes forced o inputs (Err fault) = IsTrueOf (said_by fault) (linked forced inputs o)

-- the link of the inputs, or why there is none
pub record IsLinkOf (forced : List (List ℕ)) (o : Choices) (inputs : List Input) (answer : Result Linked CliFault) : Type 0 where
  pub over : IsLinkOver forced o inputs answer
  pub bytes : IfSome (known_inputs inputs) (λ bytes. IsLinkOfBytes forced o bytes answer)
