-- What the parts of a step say of the whole.
use Rattle.std.proofs.Common.{rules, ◌≡◌, ◌↔◌, ℕ, suc, ◌-◌, length, arith, Bool, false, List, [], ◌∷◌, ◌++◌, Option, Some, None, Result, Ok}
use Rattle.std.proofs.{Common.{Err, refl, sym, ap, ◌∙◌, ◌⊎◌, inl, inr}, lemmas.Bool.false_from_ne_true}
use Rattle.aout_core.specs.{Refusals.device_fault, Refusals.refused as refused_request, Contents.Contents, Decoding.decode, Wires.Latched, Wires.Writes}
use Rattle.aout_core.specs.declared.file.ReadFault.TheVariants as reads
use Rattle.std.specs.{declared.alloc.Global.Global, Prelude.{String, string_bytes, codes, slice_get, IfErr, IfOk, IfSome, IsErr, IsTrue}}
use Rattle.aout_core.proofs.PutsLemmas.{writes_broke_off}
use Rattle.link_session.specs.{Edits.last_of, Labelled.Labelled, Sessions.Adds, Sessions.Withdraws, Undo.Kept}
use Rattle.link_out.specs.{Outcomes.{IsLinkOf, outcome_of}, Inputs.{Cause, bad_file, object_in, kept_with}}
use Rattle.link_out.specs.{declared.linked.LinkFault.LinkFault, function.Link.Outcome, declared.linked.Linked.Linked, function.Reports.line}
use Rattle.link_out.specs.declared.linked.LinkFault.TheVariants as links
use Rattle.link_session.proofs.EditLemmas.{last_of-put_last, without_last-put_last}
use Rattle.v7tools.specs.{FaultTexts.{cli_text, fault_of_link}, Answers.{done, refused, Stepped, add_step, withdraw_step, link_step}}
use Rattle.v7tools.specs.internal.StepParts.{IsRefusal, IsAccepted, IsAddition, IsAddOver, MakesLink, RefusesLink}
use Rattle.v7tools.specs.{internal.StepParts.{TakesWithdrawal, label_of}, SessionSteps.{Does, IsAddBy, IsLinkBy, verdict_of}}
use Rattle.v7tools.specs.{declared.fault.CliFault.CliFault, declared.session.commands.Step.Step}
use Rattle.v7tools.specs.{declared.session.commands.Step.TheVariants.{Refused, ToStore}, LinkAnswers.WantsMemory}
use Rattle.v7tools.specs.{LinkAnswers.IsDeviceFault, LineRuns.IsAddWorking}
use Rattle.v7tools.specs.declared.fault.CliFault.TheVariants as faults

-- ---- the last object

pub last_of-slice_get : (es : List Labelled) (e : Labelled) → slice_get es (length es - 1) ≡ Some e → last_of es ≡ Some e
last_of-slice_get [] e h = absurd (cc)
last_of-slice_get (d ∷ []) e h = h
last_of-slice_get (d ∷ (c ∷ es)) e h =
    last_of-slice_get (c ∷ es) e (ap (λ (n : ℕ). slice_get (d ∷ (c ∷ es)) n)
    (let n : suc (length (c ∷ es) - 1) ≡ length (d ∷ (c ∷ es)) - 1 = omega arith in n) ∙ h)

-- what a withdrawal does where there is an object, and where there is none
withdrawn_last : (old new : Kept) (e : Labelled) → Withdraws old new e → withdraw_step old.entries (last_of old.entries)
    ≡ record { verdict = done; answer = line (codes "withdrew " ++ e.label); kept = new.entries }
withdrawn_last old new e h = search (rules, last_of-put_last, without_last-put_last)

module _ {W : Type 0} {contents : W → Option (List ℕ)} {result : Result Step CliFault} {before after : Latched W} where
  pub takes_last : (old new : Kept) (e : Labelled) → Withdraws old new e → Does contents
      (record { verdict = done; answer = line (codes "withdrew " ++ e.label); kept = new.entries }) new result before after →
      TakesWithdrawal contents old new result before after
  takes_last old new e h does = grind (arith, withdrawn_last old new e h)

  pub takes_none : (old new : Kept) → old.entries ≡ [] → new ≡ old → Does contents
      (record { verdict = refused; answer = line (codes "nothing to withdraw"); kept = old.entries }) new result before after →
      TakesWithdrawal contents old new result before after
  takes_none old new none same does = search rules

-- ---- additions

abbrev pub failed_with : CliFault → Result (Unit {0}) CliFault
failed_with fault = Err fault

-- a step on what was found, where it is what the bytes encode and no device failed
on_bytes : (known : Option (List ℕ)) (forced : List (List ℕ)) (kept : List Labelled) (path : List ℕ)
    (found : Result Contents Cause) (r : Result (List Labelled) Cause) → (found ≡ Err (bad_file (reads.Device device_fault)) → ⊥) →
    IfSome known (λ bytes. found ≡ object_in (decode bytes)) → kept_with forced kept path found ≡ r →
    IsAddWorking known forced kept path (add_step kept path r)
on_bytes None forced kept path found r sound h e = (found, sound, ap (add_step kept path) (sym e))
on_bytes (Some bytes) forced kept path found r sound h e = ap (add_step kept path) (sym e ∙ ap (kept_with forced kept path) h)

-- an object is added
pub added_by : {R : Type 0} (remaining : R → Option (List ℕ)) (from to : Latched R) (old new : Kept) (path : List ℕ)
    (o : Contents) → from.has_failed ≡ false → to.has_failed ≡ false →
    IsAccepted (remaining from.device) old new path o →
    IsAddOver remaining from to old.forced old.entries path (add_step old.entries path (Ok new.entries))
added_by remaining from to old new path o before after h = by_found h.is_found
  where
    by_found : (Ok o ≡ Err (bad_file (reads.Device device_fault))) ⊎ IfSome (remaining from.device) (λ bytes. Ok o ≡ object_in (decode bytes)) →
        IsAddOver remaining from to old.forced old.entries path (add_step old.entries path (Ok new.entries))
    by_found (inl e) = absurd (cc)
    by_found (inr e) =
        inr (
          after,
          before,
          inr (on_bytes _ _ _ _ _ _ (λ e. absurd (cc)) e h.accepts),
        )

-- the step that a fault refuses
abbrev pub refused_as : List Labelled → List ℕ → Stepped
refused_as kept text = record { verdict = refused; answer = line text; kept = kept }

-- a file is not added: the fault is that of a device exactly where the wire has failed
module _ {R : Type 0} (remaining : R → Option (List ℕ)) (from to : Latched R) (old : Kept) (path : String Global) (fault : CliFault)
    (latched : IsTrue from.has_failed →
    to ≡ from) (device : (failed_with fault ≡ failed_with (faults.BadFile path (reads.Device device_fault))) ↔ IsTrue to.has_failed) where
  abbrev IsRefused : Type 0
  IsRefused = IsAddOver remaining from to old.forced old.entries (string_bytes path) (refused_as old.entries (cli_text fault))

  -- what was found is no failure
  sound : (h : IsRefusal (remaining from.device) old path fault) → to.has_failed ≡ false → h.found ≡ Err (bad_file (reads.Device device_fault)) → ⊥
  sound h after e = search rules

  by_refusal : IsRefusal (remaining from.device) old path fault → IsRefused
  by_refusal h = search rules

  by_memory : fault ≡ faults.Memory refused_request → IfSome (remaining from.device) (WantsMemory old.forced old.entries (string_bytes path)) → IsRefused
  by_memory is header = search rules

  pub not_added_by : (new : Kept) → IsAddition (remaining from.device) old new path (Err fault) → (new ≡ old) × IsRefused
  not_added_by new (same, inl (is, header)) = (same, by_memory is header)
  not_added_by new (same, inr h) = (same, by_refusal h)

pub added_over : {R : Type 0} (remaining : R → Option (List ℕ)) (from to : Latched R) (forced : List (List ℕ))
    (kept : List Labelled) (path : List ℕ) (did : Stepped) → IsAddOver remaining from to forced kept path did →
    IsAddBy remaining from forced kept path did
added_over remaining from to forced kept path did (inl (failed, is)) = inl is
added_over remaining from to forced kept path did (inr (after, before, inl memory)) = inr (before, inl memory)
added_over remaining from to forced kept path did (inr (after, before, inr on)) = search rules

-- ---- links

-- a link that is refused
pub link_refused_by : (kept : List Labelled) (answer : Result Outcome LinkFault) (fault : LinkFault) →
    IsLinkOf (Err fault) answer → IsLinkBy kept answer (refused_as kept (cli_text (fault_of_link fault)))
link_refused_by kept answer (links.Memory _) h = inr (refl, h)
link_refused_by kept answer fault h = inl (ap (link_step kept) (sym h))

-- ---- answers

-- an answer that went out whole
abbrev pub stepped : Step → Result Step CliFault
stepped step = Ok step

pub written_whole : {W T E : Type 0} {contents : W → Option (List ℕ)} {x : T} {a b : Latched W} {text : List ℕ}
    (step : Step) → Writes {T = T} {E = E} contents (Ok x) a b text → Writes contents (stepped step) a b text
written_whole step p = record { fault = p.fault; latched = p.latched; bytes = p.bytes }

-- a call that failed has this fault
pub only_fault : {T : Type 0} (r : Result T CliFault) (fault named : CliFault) → r ≡ Err fault → fault ≡ named → IfErr r (λ e. e ≡ named)
only_fault (Ok x) fault named is e = tt
only_fault (Err f) fault named is e = (let same : f ≡ fault = cc in same) ∙ e

pub refused_verdict : (r : Result Step CliFault) → IfOk r (λ s. s ≡ Refused) → IfOk r (λ s. verdict_of s ≡ refused)
refused_verdict (Ok s) h = ap verdict_of h
refused_verdict (Err f) h = tt

-- a write that went out, told by another value
pub written_with : {W T U E F : Type 0} {contents : W → Option (List ℕ)} {x : T} {a b : Latched W} {text : List ℕ} (y : U) →
    Writes {T = T} {E = E} contents (Ok x) a b text → Writes {T = U} {E = F} contents (Ok y) a b text
written_with y p = record { fault = (λ h. absurd (cc), λ h. absurd (let e = p.fault.1 h in cc)); latched = p.latched; bytes = p.bytes }

module _ {W : Type 0} (contents : W → Option (List ℕ)) (answer : Result Outcome LinkFault) (before after : Latched W) where
  pub refuses : {T : Type 0} (fault : LinkFault) (other : CliFault) (result : Result T CliFault) →
      IsLinkOf (Err fault) answer → other ≡ fault_of_link fault → Writes contents result before after (line (cli_text other)) →
      RefusesLink contents answer result before after
  refuses fault other result is e written = search rules

  -- a link that is refused, told by another value, or by the same fault
  pub refused_with : {T U : Type 0} (x : T) (y : U) → RefusesLink contents answer (Ok x) before after →
      RefusesLink contents answer (Ok y) before after
  refused_with x y (fault, is, written) = (fault, is, written_with y written)

  pub refused_by : {T : Type 0} (made : Result (Option Linked) CliFault) (result : Result T CliFault) → IsErr made →
      IsErr result → MakesLink contents answer made before after → RefusesLink contents answer result before after
  refused_by (Ok made) result err other h = absurd (cc)
  refused_by (Err e) result err other (fault, is, written) = (fault, is, writes_broke_off other written)

  pub not_linked : (result : Result (Option Linked) CliFault) → IsErr result →
      RefusesLink contents answer result before after → MakesLink contents answer result before after
  not_linked (Ok made) err h = absurd (cc)
  not_linked (Err fault) err h = h

  module _ (kept : Kept) where
    abbrev Links : Result Step CliFault → Type 0
    Links result = (did : Stepped) × IsLinkBy kept.entries answer did × (kept ≡ kept) × Does contents did kept result before after

    -- what a step does that asks for a link
    pub links_not : (result : Result Step CliFault) → IfOk result (λ s. s ≡ Refused) →
        RefusesLink contents answer result before after → Links result
    links_not result refuses (fault, is, written) = grind (
      arith,
      link_refused_by kept.entries answer fault is,
      refused_verdict result
          refuses,
    )

    pub links_to : (linked : Linked) → MakesLink contents answer (Ok (Some linked)) before after → Links (stepped (ToStore linked))
    links_to linked (is, same) = (
      link_step kept.entries (Ok (outcome_of linked)),
      inl (ap (link_step kept.entries) (sym is)),
      refl,
      record { kept = refl; verdict = refl; answer = (refl, same) },
    )

-- the label of an object that is added
pub label_is : (old new : Kept) (e : Labelled) → Adds old new e → label_of (last_of new.entries) ≡ e.label
label_is old new e h = ap label_of (ap last_of h.entries ∙ last_of-put_last old.entries e)

-- the device of a file that is added had not failed
pub worked_before : {R : Type 0} (before after : Latched R) (path : String Global) → (IsTrue before.has_failed → after ≡ before) →
    ((Ok tt ≡ failed_with (faults.BadFile path (reads.Device device_fault))) ↔ IsTrue after.has_failed) → before.has_failed ≡ false
worked_before before after path latched device = search rules

-- nor had that of a file that is refused, but for the fault of a device
pub worked_unless : {R : Type 0} (before after : Latched R) (path : String Global) (fault : CliFault) →
    (IsTrue before.has_failed → after ≡ before) →
    ((failed_with fault ≡ failed_with (faults.BadFile path (reads.Device device_fault))) ↔ IsTrue after.has_failed) →
    (fault ≡ faults.BadFile path (reads.Device device_fault) → ⊥) → before.has_failed ≡ false
worked_unless before after path fault latched device other = search rules

-- nor has it after the addition
pub worked_after : {R : Type 0} (after : Latched R) (path : String Global) →
    ((Ok tt ≡ failed_with (faults.BadFile path (reads.Device device_fault))) ↔ IsTrue after.has_failed) → after.has_failed ≡ false
worked_after after path device = false_from_ne_true after.has_failed (λ failed. let bad = device.1 failed in absurd (cc))

-- ---- the fault of a device

-- it is answered exactly where the wire of the file has failed
pub is_device_fault : (known : Option (List ℕ)) (old new : Kept) (path : String Global) (fault : CliFault) (latch : Bool) →
    IsAddition known old new path (Err fault) →
    ((failed_with fault ≡ failed_with (faults.BadFile path (reads.Device device_fault))) ↔ IsTrue latch) → IsDeviceFault fault ↔ IsTrue latch
is_device_fault known old new path fault latch h device = search rules
