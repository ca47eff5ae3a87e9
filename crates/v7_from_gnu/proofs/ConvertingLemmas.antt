-- Files that are converted one after another, and why one is refused.
use Rattle.std.proofs.Common.{◌≡◌, ◌≢◌, ℕ, ◌==◌, Bool, true, false, not, List, [], ◌∷◌, length, Some, None, refl, sym, ap, ◌∙◌, subst}
use Rattle.std.proofs.lemmas.{Bool.false≢true, List.length-map}
use Rattle.std.specs.Prelude.{if◌then◌else◌, Option, Result, Ok, Err}
use Rattle.aout_core.specs.{Contents.Contents, Refusals.refused}
use Rattle.gnu_objects.specs.{Clashes.{clashes_of, has_clash, names_of}, declared.clash.Clash.Clash, Converted.converted}
use Rattle.gnu_objects.specs.{declared.options.Options.Options, declared.refusal.Refusal.Refusal}
use Rattle.gnu_objects.specs.declared.refusal.Refusal.TheVariants as refusals
use Rattle.host.specs.{declared.answer.Fault.Fault, declared.answer.Fault.TheVariants.{Answered, Memory}, Answers.{Stops, is_none}}
use Rattle.v7_from_gnu.specs.Converting.{and_then, converted_from, outcome, target_of, target_with, with_names}
use Rattle.v7_from_gnu.specs.{Checks.bytes_of, Jobs.Source, Jobs.Target, internal.Lists.RefusedAs}

abbrev pub refuses : Refusal → Result Contents Refusal
refuses refusal = Err refusal

abbrev refusal_in : Result Contents Refusal → Refusal
refusal_in (Ok x) = refusals.Memory refused
refusal_in (Err refusal) = refusal

-- a file is refused
pub refused_stops : (options : Options) (source : Source) (bytes : List ℕ) (refusal : Refusal) (fault : Fault) →
    bytes ≡ source.bytes → (refuses refusal ≢ refuses (refusals.Memory refused) → refuses refusal ≡ converted options bytes) →
    RefusedAs refusal fault → Stops (is_none (target_of options source)) 1 fault
refused_stops options source bytes refusal (Answered a) same gives h =
    let is = gives (λ e. h.0 (ap refusal_in e)) in
    subst (λ (b : List ℕ). Stops (is_none (target_with source (converted options b))) 1 (Answered a)) same
    (subst (λ (r : Result Contents Refusal). Stops (is_none (target_with source r)) 1 (Answered a)) is (refl, h.1))
refused_stops options source bytes refusal (Memory r) same gives h = tt

-- the first step has a fault
pub step_fails : {A B : Type 0} (m : Option A) (next : A → Option B) (fault : Fault) → Stops (is_none m) 1 fault →
    Stops (is_none (and_then m next)) 1 fault
step_fails None next fault h = h
step_fails (Some x) next (Answered a) h = absurd (false≢true h.0)
step_fails (Some x) next (Memory r) h = tt

-- one is not converted
pub converting_fails : (options : Options) (done : List Target) (all left later : List Source) (source : Source)
    (fault : Fault) → converted_from options [] all ≡ converted_from options done left → left ≡ source ∷ later →
    Stops (is_none (target_of options source)) 1 fault → Stops (is_none (converted_from options [] all)) 1 fault
converting_fails options done all left later source fault inv e h =
    subst (λ (m : Option (List Target)). Stops (is_none m) 1 fault) (sym (inv ∙ ap (converted_from options done) e))
    (step_fails (target_of options source) _ fault h)

found_by : (t : Bool) (targets : List Target) → t ≡ false → (if t then None else Some targets) ≡ Some targets
found_by t targets is = ap (λ (b : Bool). if b then None else Some targets) is

clash_by : (t : Bool) (targets : List Target) (fault : Fault) → Stops t 1 fault → Stops (is_none (if t then None else Some targets)) 1 fault
clash_by true targets fault h = h
clash_by false targets fault h = h

-- there is a clash if any is found
pub clash_told : (clashes : List Clash) (files : List (List ℕ)) → names_of clashes ≡ clashes_of files →
    has_clash files ≡ not (length clashes == 0)
clash_told clashes files e =
    ap (λ (names : List (List ℕ)). not (length names == 0)) (sym e)
    ∙ ap (λ (n : ℕ). not (n == 0)) (length-map clashes (λ (c : Clash). c.second.now))

module _ (options : Options) (sources : List Source) where
  -- one is not converted
  pub none_converted : (fault : Fault) → Stops (is_none (converted_from options [] sources)) 1 fault → Stops (is_none (outcome options sources)) 1 fault
  none_converted fault h = step_fails (converted_from options [] sources) with_names fault h

  -- all are
  pub all_converted : (targets : List Target) → converted_from options [] sources ≡ Some targets → has_clash (bytes_of targets) ≡ false →
      outcome options sources ≡ Some targets
  all_converted targets is apart = ap (λ (m : Option (List Target)). and_then m with_names) is ∙ found_by (has_clash (bytes_of targets)) targets apart

  -- two externals would become one
  pub names_clash : (targets : List Target) (fault : Fault) → converted_from options [] sources ≡ Some targets →
      Stops (has_clash (bytes_of targets)) 1 fault → Stops (is_none (outcome options sources)) 1 fault
  names_clash targets fault is h =
      subst (λ (m : Option (List Target)). Stops (is_none (and_then m with_names)) 1 fault) (sym is)
      (clash_by (has_clash (bytes_of targets)) targets fault h)

pub ruleset by_step = (none_converted, all_converted, names_clash)
