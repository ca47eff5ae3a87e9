-- The inputs one after another, and the link of what is kept of them.
use Rattle.aout_core.specs.{Refusals.device_fault, Refusals.refused, Contents.Contents, Decoding.decode}
use Rattle.aout_core.specs.declared.file.ReadFault.TheVariants as reads
use Rattle.std.specs.{declared.alloc.Global.Global, Prelude.String, Prelude.string_bytes, Prelude.IfSome, Prelude.IsErrAnd, Prelude.IsOk}
use Rattle.std.proofs.Common.{◌≡◌, ◌≢◌, ℕ, false, List, [], ◌∷◌, Option, Some, None, option_and_then, option_map, Result, Ok, Err, refl}
use Rattle.std.proofs.Common.{sym, ap, ◌∙◌, subst, inl, inr}
use Rattle.link_session.specs.{Labelled.Labelled, Labelled.objects, Sessions.nothing_kept, Undo.Kept}
use Rattle.link_session.specs.declared.entry.AddFault.TheVariants as adds
use Rattle.link_out.specs.Inputs.{Cause, cannot_open, bad_file, not_added, Refusal, of_input, not_linked, object_in, kept_with, with_input}
use Rattle.link_out.specs.{Inputs.{with_inputs, at_path, linked}, declared.linked.Linked.Linked, declared.linked.LinkFault.LinkFault}
use Rattle.link_out.specs.{Steps.{and_then, refused_as}, function.Link.{Outcome, link}}
use Rattle.link_out.specs.declared.linked.LinkFault.TheVariants as links
use Rattle.link_out.specs.Outcomes as outcomes
use Rattle.tool_options.specs.Choices.{Choices}
use Rattle.v7tools.specs.LinkAnswers.{Input, Said, said_by, refuses, breaks, runs_out, never, Takes, Rejects, WantsMemory, StopsAt}
use Rattle.v7tools.specs.LinkAnswers.{TakesAll, StopsIn, HasNoLink, MayLackMemory, IsNotLinked, IsLinkOver, known_inputs, IsTrueOf}
use Rattle.v7tools.specs.LinkAnswers.{IsDeviceFault, IsLinkOfBytes, IsLinkOf}
use Rattle.v7tools.specs.internal.InputParts.{AreTaken, IsFinalLink, IsPossible, StopsWith}
use Rattle.v7tools.specs.{declared.fault.CliFault.CliFault, FaultTexts.fault_at, FaultTexts.fault_of_link, internal.StepParts.IsAccepted}
use Rattle.v7tools.specs.{internal.StepParts.IsAddition, internal.StepParts.IsFound}
use Rattle.v7tools.specs.declared.fault.CliFault.TheVariants as faults

-- ---- one input

-- an object that is added is taken
pub takes_accepted : (i : Input) (old new : Kept) (o : Contents) → i.has_failed ≡ false →
    IsAccepted i.known old new i.path o → Takes old.forced old.entries i new.entries
takes_accepted i old new o works h = record {
  works = works;
  object = o;
  is_found = by_found i.known h.is_found;
  accepts = h.accepts;
}
  where
    by_found : (known : Option (List ℕ)) → IsFound known (Ok o) → IfSome known (λ bytes. Ok o ≡ object_in (decode bytes))
    by_found known (inl e) = absurd (cc)
    by_found known (inr e) = e

-- why an input is not taken
module _ (i : Input) (path : String Global) (at : string_bytes path ≡ i.path) (old : Kept) where
  rejects_found : (found : Result Contents Cause) (cause : Cause) → (cause ≡ bad_file (reads.Device device_fault) → ⊥) →
      i.has_failed ≡ false → IsFound i.known found → kept_with old.forced old.entries (string_bytes path) found ≡ Err cause →
      Rejects old.forced old.entries i cause
  rejects_found found cause other works is_found h = record {
    works = works;
    found = found;
    is_found = by_found is_found;
    rejects = ap (λ (p : List ℕ). kept_with old.forced old.entries p found) (sym at) ∙ h;
  }
    where
      by_found : IsFound i.known found → IfSome i.known (λ bytes. found ≡ object_in (decode bytes))
      by_found (inl e) = absurd (other (let r = ap (kept_with old.forced old.entries (string_bytes path)) (sym e) ∙ h in cc))
      by_found (inr e) = e

  abbrev Stops : Cause → Type 0
  Stops cause = StopsAt old.forced old.entries i (said_by (fault_at path cause))

  stops_for : (found : Result Contents Cause) (cause : Cause) → IsPossible (said_by (fault_at path cause)) →
      ((fault_at path cause ≡ faults.BadFile path (reads.Device device_fault) → ⊥) → i.has_failed ≡ false) →
      IsFound i.known found → kept_with old.forced old.entries (string_bytes path) found ≡ Err cause → Stops cause
  stops_for found cannot_open possible works is_found h = absurd possible
  stops_for found (bad_file (reads.Device _)) possible works is_found h = at
  stops_for found (bad_file (reads.Memory _)) possible works is_found h = absurd possible
  stops_for found (not_added (adds.Memory _)) possible works is_found h = absurd possible
  stops_for found cause possible works is_found h =
      (at, rejects_found found cause (λ e. absurd (cc)) (works (λ e. absurd (cc))) is_found h)

  pub stops_at : (new : Kept) (fault : CliFault) → IsPossible (said_by fault) →
      ((fault ≡ faults.BadFile path (reads.Device device_fault) → ⊥) → i.has_failed ≡ false) → IsAddition i.known old new path (Err fault) →
      StopsAt old.forced old.entries i (said_by fault)
  stops_at new fault possible works (same, inl (memory, wants)) =
      let stops : StopsAt old.forced old.entries i (said_by (faults.Memory refused)) = (
        works (λ e. let is = sym memory ∙ e in absurd (cc)),
        subst (λ (p : List ℕ). IfSome i.known (WantsMemory old.forced old.entries p)) at wants,
      ) in
      subst (λ (f : CliFault). StopsAt old.forced old.entries i (said_by f)) (sym memory) stops
  stops_at new fault possible works (same, inr h) =
      subst (λ (f : CliFault). StopsAt old.forced old.entries i (said_by f)) (sym h.names)
      (stops_for h.found h.cause (subst (λ (f : CliFault). IsPossible (said_by f)) h.names possible)
      (λ other. works (λ e. other (sym h.names ∙ e))) h.is_found h.refuses)

-- ---- where all bytes are known

-- the first of the inputs tells its bytes, and so do the others
record FirstKnown (i : Input) (is : List Input) (all : List (List ℕ × List ℕ)) : Type 0 where
  bytes : List ℕ
  later : List (List ℕ × List ℕ)
  known : i.known ≡ Some bytes
  others : known_inputs is ≡ Some later
  split : all ≡ (i.path, bytes) ∷ later

first_known : (i : Input) (is : List Input) (all : List (List ℕ × List ℕ)) → known_inputs (i ∷ is) ≡ Some all → FirstKnown i is all
first_known i is all h = by_parts i.known (known_inputs is) refl refl h
  where
    by_parts : (d : Option (List ℕ)) (t : Option (List (List ℕ × List ℕ))) → i.known ≡ d → known_inputs is ≡ t →
        option_and_then (λ bytes. option_map (λ rest. (i.path, bytes) ∷ rest) t) d ≡ Some all → FirstKnown i is all
    by_parts (Some bytes) (Some later) e f h = record { bytes = bytes; later = later; known = e; others = f; split = cc }
    by_parts d t e f h = absurd (cc)

-- what is known of bytes that are known
known_bytes : (known : Option (List ℕ)) (bytes : List ℕ) (P : List ℕ → Type 0) → known ≡ Some bytes → IfSome known P → P bytes
known_bytes known bytes P e h = subst (λ (k : Option (List ℕ)). IfSome k P) e h

module _ (forced : List (List ℕ)) where
  -- the inputs after the first
  abbrev after : List (List ℕ × List ℕ) → List Labelled → Result (List Labelled) Refusal
  after later kept = with_inputs forced kept later

  took : (kept more : List Labelled) (i : Input) (bytes : List ℕ) → i.known ≡ Some bytes → Takes forced kept i more →
      with_input forced kept i.path bytes ≡ Ok more
  took kept more i bytes known h =
      ap (kept_with forced kept i.path)
      (sym (known_bytes i.known bytes (λ bytes. Ok h.object ≡ object_in (decode bytes)) known h.is_found)) ∙ h.accepts

  took_first : (kept more : List Labelled) (i : Input) (is : List Input) (all : List (List ℕ × List ℕ))
      (f : FirstKnown i is all) → Takes forced kept i more → with_inputs forced kept all ≡ with_inputs forced more f.later
  took_first kept more i is all f h =
      ap (with_inputs forced kept) f.split ∙ ap (λ (x : Result (List Labelled) Cause).
      and_then (at_path i.path x) (after f.later)) (took kept more i f.bytes f.known h)

  takes_bytes : (is : List Input) (kept more : List Labelled) (all : List (List ℕ × List ℕ)) →
      known_inputs is ≡ Some all → TakesAll forced kept is more → with_inputs forced kept all ≡ Ok more
  takes_bytes [] kept more all e same =
      (let none : all ≡ [] = (let f : Some [] ≡ Some all = e in cc) in ap (with_inputs forced kept) none)
      ∙ ap (λ (x : List Labelled). Ok x) (sym same)
  takes_bytes (i ∷ is) kept more all e (next, takes, rest) =
      let f = first_known i is all e in
      took_first kept next i is all f takes ∙ takes_bytes is next more f.later f.others rest

  -- what is said of a part is said of the whole
  pub said_of_whole : {A B : Type 0} (s : Said) (part : Result A Refusal) (rest : A → Result B Refusal) →
      IsTrueOf s part → IsTrueOf s (and_then part rest)
  said_of_whole {A} (refuses r) part rest h = ap (λ (x : Result A Refusal). and_then x rest) h
  said_of_whole never part rest h = h
  said_of_whole said part rest h = tt

  said_at : (kept : List Labelled) (i : Input) (bytes : List ℕ) (said : Said) → i.known ≡ Some bytes →
      StopsAt forced kept i said → IsTrueOf said (at_path i.path (with_input forced kept i.path bytes))
  said_at kept i bytes (refuses (of_input path cause)) known (at, h) =
      ap (at_path i.path) (ap (kept_with forced kept i.path)
      (sym (known_bytes i.known bytes (λ bytes. h.found ≡ object_in (decode bytes)) known h.is_found)) ∙ h.rejects)
      ∙ ap (λ (p : List ℕ). Err (of_input p cause)) (sym at)
  said_at kept i bytes (refuses (not_linked fault)) known h = absurd h
  said_at kept i bytes never known h = absurd h
  said_at kept i bytes said known h = tt

  stops_bytes : (is : List Input) (kept : List Labelled) (all : List (List ℕ × List ℕ)) (said : Said) →
      known_inputs is ≡ Some all → StopsIn forced kept is said → IsTrueOf said (with_inputs forced kept all)
  stops_bytes [] kept all said e h = absurd h
  stops_bytes (i ∷ is) kept all said e (inl h) =
      let f = first_known i is all e in
      subst (λ (bytes : List (List ℕ × List ℕ)). IsTrueOf said (with_inputs forced kept bytes)) (sym f.split)
      (said_of_whole said (at_path i.path (with_input forced kept i.path f.bytes)) (after f.later) (said_at kept i f.bytes said f.known h))
  stops_bytes (i ∷ is) kept all said e (inr (next, takes, rest)) =
      let f = first_known i is all e in
      subst (IsTrueOf said) (sym (took_first kept next i is all f takes)) (stops_bytes is next f.later said f.others rest)

  module _ (o : Choices) (is : List Input) (all : List (List ℕ × List ℕ)) (e : known_inputs is ≡ Some all) where
    abbrev link_kept : List Labelled → Result Outcome Refusal
    link_kept kept = refused_as not_linked (link forced (objects kept) o)

    linked_of : (kept : List Labelled) → TakesAll forced [] is kept → linked forced all o ≡ link_kept kept
    linked_of kept h = ap (λ (x : Result (List Labelled) Refusal). and_then x link_kept) (takes_bytes is [] kept all e h)

    no_link_of : (x : Result Outcome LinkFault) (said : Said) → HasNoLink x said → IsTrueOf said (refused_as not_linked x)
    no_link_of x (refuses (not_linked fault)) h = ap (refused_as not_linked) h
    no_link_of x said h = absurd h

    not_linked_of : (said : Said) → IsNotLinked forced o is said → IsTrueOf said (linked forced all o)
    not_linked_of runs_out h = tt
    not_linked_of (refuses r) (inl h) =
        said_of_whole (refuses r) (with_inputs forced [] all) link_kept (stops_bytes is [] all (refuses r) e h)
    not_linked_of (refuses r) (inr h) =
        subst (IsTrueOf (refuses r)) (sym (linked_of h.kept h.taken)) (no_link_of (link forced (objects h.kept) o) (refuses r) h.none)
    not_linked_of (breaks path) h = tt
    not_linked_of never (inl h) = said_of_whole never (with_inputs forced [] all) link_kept (stops_bytes is [] all never e h)
    not_linked_of never (inr h) = absurd h.none

    of_bytes : (answer : Result Linked CliFault) → IsLinkOver forced o is answer → IsLinkOfBytes forced o all answer
    of_bytes (Ok l) h = linked_of h.kept h.taken ∙ ap (refused_as not_linked) h.link
    of_bytes (Err fault) h = not_linked_of (said_by fault) h

-- what is said of the inputs is said of their bytes
pub is_link_of : (forced : List (List ℕ)) (o : Choices) (is : List Input) (answer : Result Linked CliFault) →
    IsLinkOver forced o is answer → IsLinkOf forced o is answer
is_link_of forced o is answer h = record { over = h; bytes = by_inputs (known_inputs is) refl }
  where
    by_inputs : (t : Option (List (List ℕ × List ℕ))) → known_inputs is ≡ t → IfSome t (λ bytes. IsLinkOfBytes forced o bytes answer)
    by_inputs None e = tt
    by_inputs (Some all) e = of_bytes forced o is all e answer h

-- ---- where memory may run out

-- an input that is taken wants memory
wants_taken : (forced : List (List ℕ)) (kept next : List Labelled) (i : Input) → Takes forced kept i next → StopsAt forced kept i runs_out
wants_taken forced kept next i h = (h.works, by_known i.known refl)
  where
    by_known : (known : Option (List ℕ)) → i.known ≡ known → IfSome known (WantsMemory forced kept i.path)
    by_known None e = tt
    by_known (Some bytes) e = inr (subst IsOk (sym (took forced kept next i bytes e h)) refl)

runs_out_in : (forced : List (List ℕ)) (is : List Input) → StopsIn forced [] is runs_out → MayLackMemory forced is
runs_out_in (name ∷ names) is h = tt
runs_out_in [] [] h = tt
runs_out_in [] (i ∷ is) (inl h) = h
runs_out_in [] (i ∷ is) (inr (next, takes, rest)) = wants_taken [] [] next i takes

runs_out_after : (forced : List (List ℕ)) (is : List Input) (kept : List Labelled) → TakesAll forced [] is kept → MayLackMemory forced is
runs_out_after (name ∷ names) is kept h = tt
runs_out_after [] [] kept h = tt
runs_out_after [] (i ∷ is) kept (next, takes, rest) = wants_taken [] [] next i takes

runs_out_for : (forced : List (List ℕ)) (is : List Input) → forced ≢ [] → MayLackMemory forced is
runs_out_for [] is some = absurd (some refl)
runs_out_for (name ∷ names) is some = tt

-- the link stops at an input, whatever the inputs before it leave
stops_in : (forced : List (List ℕ)) (kept left : List Labelled) (is : List Input) (said : Said) →
    StopsWith forced kept is said left → StopsIn forced kept is said
stops_in forced kept left [] said h = h
stops_in forced kept left (i ∷ is) said (inl h) = inl h.1
stops_in forced kept left (i ∷ is) said (inr (next, takes, rest)) = inr (next, takes, stops_in forced next left is said rest)

-- so there is no link
not_linked_in : (forced : List (List ℕ)) (o : Choices) (is : List Input) (said : Said) → StopsIn forced [] is said →
    IsNotLinked forced o is said
not_linked_in forced o is runs_out h = runs_out_in forced is h
not_linked_in forced o is said h = inl h

-- ---- the final link

-- a fault of the link
pub final_fault : (x : Result Outcome LinkFault) (cause : LinkFault) (r : Result Linked CliFault) →
    outcomes.IsLinkOf (Err cause) x → IsErrAnd r (λ f. f ≡ fault_of_link cause) → IsFinalLink x r
final_fault x cause (Ok l) h e = absurd e
final_fault x cause (Err f) h e = subst (λ (f : CliFault). IsFinalLink x (Err f)) (sym e) (by_cause cause h)
  where
    by_cause : (cause : LinkFault) → outcomes.IsLinkOf (Err cause) x → IsFinalLink x (Err (fault_of_link cause))
    by_cause (links.Memory _) h = h
    by_cause cause h = h

-- ---- the link of what was taken

module _ (forced : List (List ℕ)) (o : Choices) (is : List Input) (old new : Kept) (empty : old ≡ nothing_kept forced) where
  -- forced names are entered where there are some
  from_nothing : (r : Result (Unit {0}) CliFault) → AreTaken old new is r → AreTaken (nothing_kept forced) new is r
  from_nothing r h = subst (λ (k : Kept). AreTaken k new is r) empty h

  names_of : new.forced ≡ old.forced → new.forced ≡ forced
  names_of same = same ∙ ap (λ (k : Kept). k.forced) empty

  -- the link stops at an input
  pub stopped : (fault : CliFault) (r : Result Linked CliFault) → AreTaken old new is (Err fault) →
      IsErrAnd r (λ f. f ≡ fault) → IsLinkOf forced o is r
  stopped fault (Ok l) h e = absurd e
  stopped fault (Err f) h e =
      subst (λ (x : CliFault). IsLinkOf forced o is (Err x)) (sym e)
      (is_link_of forced o is (Err fault) (not_linked_in forced o is (said_by fault)
      (stops_in forced [] new.entries is (said_by fault) (from_nothing (Err fault) h))))

  -- all inputs are taken, and linked
  pub linked_last : (r : Result Linked CliFault) → new.forced ≡ old.forced → AreTaken old new is (Ok tt) →
      IsFinalLink (link new.forced (objects new.entries) o) r → IsLinkOf forced o is r
  linked_last r same h final =
      is_link_of forced o is r
      (by_final r (subst (λ (f : List (List ℕ)). IsFinalLink (link f (objects new.entries) o) r) (names_of same) final))
    where
      taken : TakesAll forced [] is new.entries
      taken = from_nothing (Ok tt) h

      by_final : (r : Result Linked CliFault) → IsFinalLink (link forced (objects new.entries) o) r → IsLinkOver forced o is r
      by_final (Ok l) f = record { kept = new.entries; taken = taken; link = f }
      by_final (Err (faults.Memory _)) f = runs_out_after forced is new.entries taken
      by_final (Err (faults.NotLinked (links.Memory _))) f = absurd f
      by_final (Err (faults.NotLinked fault)) f = inr (record { kept = new.entries; taken = taken; none = f })
      by_final (Err fault) f = absurd f

-- memory runs out for forced names
pub no_names : (forced : List (List ℕ)) (o : Choices) (is : List Input) (r : Result Linked CliFault) → forced ≢ [] →
    IsErrAnd r (λ f. f ≡ faults.Memory refused) → IsLinkOf forced o is r
no_names forced o is (Ok l) some e = absurd e
no_names forced o is (Err f) some e =
    subst (λ (x : CliFault). IsLinkOf forced o is (Err x)) (sym e)
    (is_link_of forced o is (Err (faults.Memory refused)) (runs_out_for forced is some))

-- no device failed in a link of what was taken
pub final_works : (x : Result Outcome LinkFault) (fault : CliFault) → IsFinalLink x (Err fault) → IsDeviceFault fault → ⊥
final_works x (faults.BadFile path fault) h device = absurd h
final_works x fault h device = absurd device

pub ruleset by_final = (final_fault)
