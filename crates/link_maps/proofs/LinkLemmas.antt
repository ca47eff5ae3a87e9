-- What a session keeps of the objects of a map is what it keeps of the inputs from which they were read.
use Rattle.std.proofs.Common.{◌≡◌, ◌≢◌, ℕ, zero, suc, ◌+◌, not, is_some, List, [], ◌∷◌, ◌++◌, length, Option, Some, None, Result, Ok, Err}
use Rattle.std.proofs.{Common.{refl, sym, ap, ◌∙◌, subst, arith}, lemmas.List.{length-append, map-append}}
use Rattle.std.specs.Prelude.{IfSome}
use Rattle.aout_core.specs.{Contents.Contents, Decoding.decode, Refusals.refused, WellFormed.first_of}
use Rattle.link_session.specs.{declared.entry.AddFault.AddFault, Labelled.Labelled, Labelled.objects, Limits.refusal}
use Rattle.tool_options.specs.Choices.{Choices}
use Rattle.link_out.specs.Inputs.{Cause, Refusal, of_input, not_added, not_linked, at_path, kept_with, linked, object_in, with_inputs}
use Rattle.link_out.specs.{declared.linked.Linked.Linked, declared.linked.LinkFault.LinkFault, declared.linked.LinkFault.TheVariants.Memory}
use Rattle.link_out.specs.{function.Link.link, Outcomes.IsLinkOf, Results.Outcome as Linkage, Steps.and_then, Steps.refused_as, Steps.unless}
use Rattle.link_maps.specs.{Links.{ShowsLink, link_shown, path_at, read_inputs}, Taking.{Split, split, split_by, split_from, split_of}}
use Rattle.link_maps.specs.{declared.members.Objects.Objects, declared.members.Refused.Refused, declared.outcome.Outcome.Outcome}
use Rattle.link_maps.specs.{Members.{all_of, cause_of}, Rows.IsOutcome}

abbrev kept_so_far : List Labelled → Split
kept_so_far kept = record { kept = kept; cause = None; left = [] }

module _ (forced : List (List ℕ)) where
  -- after an object that is refused no other is taken
  stays : (s : Split) (cause : AddFault) (xs : List Labelled) → s.cause ≡ Some cause →
      ((split_from forced s xs).kept ≡ s.kept) × ((split_from forced s xs).cause ≡ Some cause)
  stays s cause [] h = (refl, h)
  stays s cause (x ∷ xs) h =
      subst (λ (c : Option AddFault).
      (let t : Split = split_from forced (split_by s x (first_of c (refusal forced (objects s.kept) x.object))) xs in
      (t.kept ≡ s.kept) × (t.cause ≡ Some cause))) (sym h) (stays (split_by s x (Some cause)) cause xs refl)

  -- these inputs, after so many objects, end so: all are taken, or the next is refused
  abbrev Ends : ℕ → List (List ℕ × List ℕ) → Result (List Labelled) Refusal → List Labelled → Option AddFault → Type 0
  Ends before is r kept None = (more : List Labelled) × (r ≡ Ok more) × (objects more ≡ objects kept)
  Ends before is r kept (Some cause) =
      (number : ℕ) × (length kept ≡ before + number) × (r ≡ Err (of_input (path_at is number) (not_added cause)))

  one_later : (before : ℕ) (i : List ℕ × List ℕ) (is : List (List ℕ × List ℕ)) (r : Result (List Labelled) Refusal)
      (kept : List Labelled) (cause : Option AddFault) → Ends (before + 1) is r kept cause → Ends before (i ∷ is) r kept cause
  one_later before i is r kept None h = h
  one_later before i is r kept (Some cause) h = (suc h.0, (let e : length kept ≡ before + 1 + h.0 = h.1 in omega (arith, e)), h.2)

  module _ (i : List ℕ × List ℕ) (is : List (List ℕ × List ℕ)) (before kept : List Labelled) (same : objects before ≡ objects kept) where
    abbrev Later : Type 0
    Later = (xs before kept : List Labelled) → objects before ≡ objects kept → read_inputs is ≡ Ok (objects xs) →
        Ends (length kept) is (with_inputs forced before is) (split_from forced (kept_so_far kept) xs).kept
        (split_from forced (kept_so_far kept) xs).cause

    abbrev Found : List Labelled → Result Contents Cause → Type 0
    Found xs r = and_then (at_path i.0 r) (λ o. and_then (read_inputs is) (λ os. Ok (o ∷ os))) ≡ Ok (objects xs)

    abbrev Goal : List Labelled → Result Contents Cause → Type 0
    Goal xs r =
        Ends (length kept) (i ∷ is) (and_then (at_path i.0 (kept_with forced before i.0 r)) (λ more. with_inputs forced more is))
        (split_from forced (kept_so_far kept) xs).kept (split_from forced (kept_so_far kept) xs).cause

    by_limit : (x : Labelled) (xs : List Labelled) (q : Option AddFault) → read_inputs is ≡ Ok (objects xs) → Later →
        (let s : Split = split_from forced (split_by (kept_so_far kept) x q) xs in
        Ends (length kept) (i ∷ is)
        (and_then (at_path i.0 (unless not_added q (before ++ record { label = i.0; object = x.object } ∷ [])))
        (λ more. with_inputs forced more is)) s.kept s.cause)
    by_limit x xs None rest later =
        let s : Split = split_from forced (kept_so_far (kept ++ x ∷ [])) xs in
        let next = before ++ record { label = i.0; object = x.object } ∷ [] in
        let alike : objects next ≡ objects (kept ++ x ∷ []) =
        map-append (λ (e : Labelled). e.object) before (record { label = i.0; object = x.object } ∷ [])
        ∙ ap (λ (os : List Contents). os ++ x.object ∷ []) same
        ∙ sym (map-append (λ (e : Labelled). e.object) kept (x ∷ [])) in
        one_later (length kept) i is (with_inputs forced next is) s.kept s.cause
        (subst (λ (n : ℕ). Ends n is (with_inputs forced next is) s.kept s.cause) (length-append kept (x ∷ []))
        (later xs next (kept ++ x ∷ []) alike rest))
    by_limit x xs (Some cause) rest later =
        let begun : Split = split_by (kept_so_far kept) x (Some cause) in
        let s : Split = split_from forced begun xs in
        let h = stays begun cause xs refl in
        subst (λ (c : Option AddFault). Ends (length kept) (i ∷ is) (Err (of_input i.0 (not_added cause))) s.kept c) (sym h.1)
        (zero, (ap (λ (l : List Labelled). length l) h.0 ∙ omega arith), refl)

    by_rest : (o : Contents) (xs : List Labelled) (rest : Result (List Contents) Refusal) → read_inputs is ≡ rest →
        and_then rest (λ os. Ok (o ∷ os)) ≡ Ok (objects xs) → Later → Goal xs (Ok o)
    by_rest o xs (Err refusal) is_rest h later = absurd (cc)
    by_rest o [] (Ok os) is_rest h later = absurd (cc)
    by_rest o (x ∷ xs) (Ok os) is_rest h later =
        let first : x.object ≡ o = cc in
        let rest : os ≡ objects xs = cc in
        subst (λ (c : Contents). Goal (x ∷ xs) (Ok c)) first
        (subst (λ (os : List Contents).
        (let s : Split = split_from forced (split_by (kept_so_far kept) x (refusal forced (objects kept) x.object)) xs in
        Ends (length kept) (i ∷ is)
        (and_then (at_path i.0 (unless not_added (refusal forced os x.object) (before ++ record { label = i.0; object = x.object } ∷ [])))
        (λ more. with_inputs forced more is)) s.kept s.cause)) (sym same)
        (by_limit x xs (refusal forced (objects kept) x.object) (is_rest ∙ ap (λ (l : List Contents). Ok l) rest) later))

    by_object : (r : Result Contents Cause) (xs : List Labelled) → Found xs r → Later → Goal xs r
    by_object (Ok o) xs h later = by_rest o xs (read_inputs is) refl h later
    by_object (Err cause) xs h later = absurd (cc)

  ends : (is : List (List ℕ × List ℕ)) (xs before kept : List Labelled) → objects before ≡ objects kept →
      read_inputs is ≡ Ok (objects xs) →
      Ends (length kept) is (with_inputs forced before is) (split_from forced (kept_so_far kept) xs).kept
      (split_from forced (kept_so_far kept) xs).cause
  ends [] [] before kept same read = (before, refl, same)
  ends [] (x ∷ xs) before kept same read = absurd (cc)
  ends (i ∷ is) xs before kept same read = by_object i is before kept same (object_in (decode i.1)) xs read (ends is)

-- a link that is not for want of memory is shown as it is
shown_as : (r : Result Linked LinkFault) (x : Result Linkage LinkFault) → IsLinkOf r x → r ≢ Err (Memory refused) →
    refused_as not_linked x ≡ link_shown r
shown_as (Ok l) x h no_memory = ap (refused_as not_linked) h
shown_as (Err (Memory _)) x h no_memory = absurd (no_memory refl)
shown_as (Err fault) x h no_memory = ap (refused_as not_linked) h

module _ (forced : List (List ℕ)) (choices : Choices) (inputs : List (List ℕ × List ℕ)) (all : Objects) (outcome : Option Outcome) where
  abbrev link_after : Result (List Labelled) Refusal → Result Linkage Refusal
  link_after r = and_then r (λ kept. refused_as not_linked (link forced (objects kept) choices))

  all_end : read_inputs inputs ≡ Ok (objects (all_of all)) → split_of all ≡ split forced (all_of all) →
      Ends forced 0 inputs (with_inputs forced [] inputs) all.session.entries (cause_of all.refused)
  all_end read taken =
      subst (λ (s : Split). Ends forced 0 inputs (with_inputs forced [] inputs) s.kept s.cause) (sym taken)
      (ends forced inputs (all_of all) [] [] refl read)

  refused_so : (r : Option Refused) → Ends forced 0 inputs (with_inputs forced [] inputs) all.session.entries (cause_of r) →
      IfSome r (λ r. linked forced inputs choices ≡ Err (of_input (path_at inputs (length all.session.entries)) (not_added r.cause)))
  refused_so None h = tt
  refused_so (Some r) h =
      let e : length all.session.entries ≡ 0 + h.0 = h.1 in
      let same : h.0 ≡ length all.session.entries = omega (arith, e) in
      ap link_after h.2 ∙ ap (λ (n : ℕ). Err (of_input (path_at inputs n) (not_added r.cause))) same

  made_so : (r : Option Refused) (x : Option Outcome) →
      Ends forced 0 inputs (with_inputs forced [] inputs) all.session.entries (cause_of r) → all.session.forced ≡ forced →
      is_some x ≡ not (is_some r) → IfSome x (λ o. IsOutcome o all.session choices) →
      IfSome x (λ o. linked forced inputs choices ≡ link_shown o.linked)
  made_so r None h names made so = tt
  made_so (Some r) (Some x) h names made so = absurd (cc)
  made_so None (Some x) h names made so =
      ap link_after h.1
      ∙ ap (λ (os : List Contents). refused_as not_linked (link forced os choices)) h.2
      ∙ ap (λ (f : List (List ℕ)). refused_as not_linked (link f (objects all.session.entries) choices)) (sym names)
      ∙ shown_as x.linked (link all.session.forced (objects all.session.entries) choices) so.made so.no_memory

  -- the map shows the link of the inputs from which its objects were read
  pub shows_link : read_inputs inputs ≡ Ok (objects (all_of all)) → all.session.forced ≡ forced →
      split_of all ≡ split forced (all_of all) → is_some outcome ≡ not (is_some all.refused) →
      IfSome outcome (λ o. IsOutcome o all.session choices) → ShowsLink forced choices inputs all outcome
  shows_link read names taken made so = record {
    refused = refused_so all.refused (all_end read taken);
    made = made_so all.refused outcome (all_end read taken) names made so;
  }
