-- Where memory may run out, stage by stage.
use Rattle.std.proofs.Common.{◌≡◌, ℕ, List, [], Result, Ok, Err, refl, sym, ap, ◌∙◌, subst, inl}
use Rattle.std.specs.Prelude.{IsOk}
use Rattle.aout_core.specs.Contents.{Contents}
use Rattle.link_session.specs.{Labelled.Labelled, Labelled.objects, Undo.Kept}
use Rattle.tool_options.specs.Choices.{Choices}
use Rattle.link_out.specs.{declared.linked.LinkFault.LinkFault, function.Link.link, Inputs.with_inputs, Results.Outcome, Steps.and_then}
use Rattle.link_out.specs.{Steps.refused_as}
use Rattle.link_out.specs.Inputs as inputs
use Rattle.libv7.specs.LinkAnswers.{numbered, objects_in, parts_linked, refusal_of, taken_each}
use Rattle.libv7.specs.{RunAnswers.{RunOutput, objects_run, parts_run, run_output}, MemoryWanted.MayRunOutInLink}
use Rattle.libv7.specs.{declared.cause.Cause.Cause, declared.cause.Cause.TheVariants.NotLinked}
use Rattle.libv7.specs.{declared.cause.Refusal.Refusal, Causes.at}

-- a link was made, so there is one
pub there_is_one : (r : Result Outcome LinkFault) (x : Outcome) → refused_as NotLinked r ≡ Ok x → IsOk r
there_is_one (Ok y) x h = refl
there_is_one (Err fault) x h = absurd (cc)

-- all parts are taken: the link of them is that of their objects
module _ (forced : List (List ℕ)) (o : Choices) (parts : List (List ℕ)) where
  abbrev link_of : Result (List Labelled) inputs.Refusal → Result Outcome inputs.Refusal
  link_of r = and_then r (λ kept. refused_as inputs.not_linked (link forced (objects kept) o))

  by_link : (r : Result Outcome LinkFault) → refused_as refusal_of (refused_as inputs.not_linked r) ≡ at 0 (refused_as NotLinked r)
  by_link (Ok x) = refl
  by_link (Err fault) = refl

  by_taken : (r : Result (List Labelled) inputs.Refusal) (os : List Contents) → objects_in r ≡ Ok os →
      refused_as refusal_of (link_of r) ≡ at 0 (refused_as NotLinked (link forced os o))
  by_taken (Ok kept) os h =
      let same : objects kept ≡ os = cc in
      by_link (link forced (objects kept) o) ∙ ap (λ (l : List Contents). at 0 (refused_as NotLinked (link forced l o))) same
  by_taken (Err refusal) os h = absurd (cc)

  parts_link : (os : List Contents) → taken_each forced parts ≡ Ok os → parts_linked forced o parts ≡ at 0 (refused_as NotLinked (link forced os o))
  parts_link os taken = by_taken (with_inputs forced [] (numbered 0 parts)) os taken

  run_by : (w : ℕ) (os : List Contents) (r : Result Outcome LinkFault) →
      and_then (at 0 (refused_as NotLinked r)) (λ x. Ok (run_output w forced os x))
      ≡ at 0 (and_then (refused_as NotLinked r) (λ x. Ok (run_output w forced os x)))
  run_by w os (Ok x) = refl
  run_by w os (Err fault) = refl

  run_is : (w : ℕ) (k : Kept) → k.forced ≡ forced → taken_each forced parts ≡ Ok (objects k.entries) →
      parts_run w forced o parts ≡ at 0 (objects_run w k.forced o (objects k.entries))
  run_is w k names taken =
      let os = objects k.entries in
      rw (taken, parts_link os taken)
      (run_by w os (link forced os o) ∙ ap (λ (f : List (List ℕ)). at 0 (objects_run w f o os)) (sym names))

  pub parts_given : (w : ℕ) (k : Kept) (x : RunOutput) → k.forced ≡ forced → taken_each forced parts ≡ Ok (objects k.entries) →
      objects_run w k.forced o (objects k.entries) ≡ Ok x → parts_run w forced o parts ≡ Ok x
  parts_given w k x names taken given = run_is w k names taken ∙ ap (at 0) given

  pub parts_not_linked : (w : ℕ) (k : Kept) (cause : Cause) → k.forced ≡ forced →
      taken_each forced parts ≡ Ok (objects k.entries) → objects_run w k.forced o (objects k.entries) ≡ Err cause →
      parts_run w forced o parts ≡ Err (record { cause = cause; place = 0 })
  parts_not_linked w k cause names taken refused_so = run_is w k names taken ∙ ap (at 0) refused_so

  pub parts_not_taken : (w : ℕ) (r : Refusal) → taken_each forced parts ≡ Err r → parts_run w forced o parts ≡ Err r
  parts_not_taken w r taken = rw taken refl

  is_linked : (r : Result Outcome LinkFault) → IsOk r → IsOk (at 0 (refused_as NotLinked r))
  is_linked (Ok x) h = refl
  is_linked (Err fault) h = absurd (cc)

  -- memory may run out for the link
  pub parts_without_memory : (k : Kept) → k.forced ≡ forced → taken_each forced parts ≡ Ok (objects k.entries) →
      IsOk (link k.forced (objects k.entries) o) → MayRunOutInLink forced o parts 0
  parts_without_memory k names taken linked =
      inl (
        refl,
        rw (parts_link (objects k.entries) taken) (is_linked (link forced (objects k.entries) o)
            (subst (λ (f : List (List ℕ)). IsOk (link f (objects k.entries) o)) names linked)),
      )
