-- Objects taken one by one, each from the bytes of its part.
use Rattle.std.proofs.Common.{◌≡◌, ℕ, ◌+◌, ◌<◌, List, [], ◌∷◌, ◌++◌, length, take, drop, get_or, Option, Some, None, Result, Ok, Err, refl}
use Rattle.std.proofs.Common.{sym, ap, ◌∙◌, subst, inl, inr, arith, append_assoc, append-nil}
use Rattle.std.proofs.lemmas.List.{drop_more, length-map, length-take-le, map-append, map_more, take-append-drop, take-map, get_or-map}
use Rattle.std.specs.Prelude.{◌⊎◌, IsOk}
use Rattle.aout_core.specs.{Contents.Contents, Decoding.decode}
use Rattle.link_session.specs.{declared.entry.AddFault.AddFault, Labelled.Labelled, Labelled.objects, Limits.refusal}
use Rattle.link_out.specs.{Inputs.{at_path, kept_with, with_inputs}, Steps.{and_then, refused_as, unless}}
use Rattle.link_out.specs.Inputs as inputs
use Rattle.link_maps.specs.Links.{read_inputs}
use Rattle.libv7.specs.LinkAnswers.{each_of, numbered, objects_in, refusal_of, taken_each}
use Rattle.libv7.specs.{declared.cause.Cause.TheVariants.NotAdded, declared.cause.Refusal.Refusal}
use Rattle.libv7.specs.MemoryWanted.{HasBody, MayRunOutAt}
use Rattle.libv7.specs.{FileAnswers.object_in, declared.cause.Cause.Cause}
use Rattle.libv7.specs.{declared.parts.ObjectBytes.ObjectBytes, Causes.{at, cause_of_input}, MapAnswers.objects_each}

-- ---- each part after those before it

-- what takes an object after others
abbrev pub TakesOne : Type 0
TakesOne = List Contents → List ℕ → Result Contents Cause

-- the object that the bytes begin with, if a session takes it, and whether one takes it or not
abbrev pub taken_after : List (List ℕ) → List Contents → List ℕ → Result Contents Cause
taken_after forced os bytes = and_then (object_in bytes) (λ o. unless NotAdded (refusal forced os o) o)

abbrev pub read_after : List Contents → List ℕ → Result Contents Cause
read_after os bytes = object_in bytes

-- objects with those of these parts, of which the first has this number, or the first refusal
abbrev pub each_from : TakesOne → ℕ → List Contents → List (List ℕ) → Result (List Contents) Refusal
each_from one n os [] = Ok os
each_from one n os (bytes ∷ rest) = and_then (at n (one os bytes)) (λ o. each_from one (n + 1) (os ++ o ∷ []) rest)

each_from-append : (one : TakesOne) (n : ℕ) (os : List Contents) (xs ys : List (List ℕ)) →
    each_from one n os (xs ++ ys) ≡ and_then (each_from one n os xs) (λ more. each_from one (n + length xs) more ys)
each_from-append one n os [] ys = let e : n ≡ n + 0 = omega arith in ap (λ (m : ℕ). each_from one m os ys) e
each_from-append one n os (x ∷ xs) ys = by_first (one os x) (λ more. each_from-append one (n + 1) more xs ys)
  where
    by_first : (r : Result Contents Cause) → ((more : List Contents) → each_from one (n + 1) more (xs ++ ys)
        ≡ and_then (each_from one (n + 1) more xs) (λ os. each_from one (n + 1 + length xs) os ys)) →
        and_then (at n r) (λ o. each_from one (n + 1) (os ++ o ∷ []) (xs ++ ys))
        ≡ and_then (and_then (at n r) (λ o. each_from one (n + 1) (os ++ o ∷ []) xs)) (λ more. each_from one (n + length (x ∷ xs)) more ys)
    by_first (Ok o) later =
        let e : n + 1 + length xs ≡ n + length (x ∷ xs) = omega arith in
        later (os ++ o ∷ [])
        ∙ ap (λ (m : ℕ). and_then (each_from one (n + 1) (os ++ o ∷ []) xs) (λ more. each_from one m more ys)) e
    by_first (Err cause) later = refl

-- ---- what a session takes

module _ (forced : List (List ℕ)) (n : ℕ) (kept : List Labelled) (rest : List (List ℕ)) where
  abbrev rest_taken : List Labelled → Result (List Labelled) inputs.Refusal
  rest_taken more = with_inputs forced more (numbered (n + 1) rest)

  abbrev Later : Type 0
  Later = (more : List Labelled) → objects_in (rest_taken more) ≡ each_from (taken_after forced) (n + 1) (objects more) rest

  abbrev then_kept : Result Contents Cause → Result (List Contents) Refusal
  then_kept r = and_then (at n r) (λ o. each_from (taken_after forced) (n + 1) (objects kept ++ o ∷ []) rest)

  by_limit : (o : Contents) (q : Option AddFault) → Later →
      objects_in (and_then (at_path (n ∷ []) (unless inputs.not_added q (kept ++ record { label = n ∷ []; object = o } ∷ []))) rest_taken)
      ≡ then_kept (unless NotAdded q o)
  by_limit o None rest_is =
      let e : Labelled = record { label = n ∷ []; object = o } in
      rest_is (kept ++ e ∷ [])
      ∙ ap (λ (os : List Contents). each_from (taken_after forced) (n + 1) os rest)
      (map-append (λ (x : Labelled). x.object) kept (e ∷ []))
  by_limit o (Some fault) rest_is = refl

  by_object : (r : Result Contents inputs.Cause) → Later →
      objects_in (and_then (at_path (n ∷ []) (kept_with forced kept (n ∷ []) r)) rest_taken)
      ≡ then_kept (and_then (refused_as cause_of_input r) (λ o. unless NotAdded (refusal forced (objects kept) o) o))
  by_object (Ok o) rest_is = by_limit o (refusal forced (objects kept) o) rest_is
  by_object (Err cause) rest_is = refl

taken_from : (forced : List (List ℕ)) (n : ℕ) (kept : List Labelled) (parts : List (List ℕ)) →
    objects_in (with_inputs forced kept (numbered n parts)) ≡ each_from (taken_after forced) n (objects kept) parts
taken_from forced n kept [] = refl
taken_from forced n kept (bytes ∷ rest) =
    by_object forced n kept rest (inputs.object_in (decode bytes)) (λ more. taken_from forced (n + 1) more rest)

pub taken_goes_on : (forced : List (List ℕ)) (parts : List (List ℕ)) → taken_each forced parts ≡ each_from (taken_after forced) 0 [] parts
taken_goes_on forced parts = taken_from forced 0 [] parts

-- ---- what is read, whether a session takes it or not

-- objects, with more
abbrev with_more : List Contents → Result (List Contents) Refusal → Result (List Contents) Refusal
with_more os r = and_then r (λ more. Ok (os ++ more))

read_from : (n : ℕ) (os : List Contents) (parts : List (List ℕ)) →
    with_more os (refused_as refusal_of (read_inputs (numbered n parts))) ≡ each_from read_after n os parts
read_from n os [] = ap (λ (l : List Contents). Ok l) (append-nil os)
read_from n os (bytes ∷ rest) = by_object (inputs.object_in (decode bytes)) (λ more. read_from (n + 1) more rest)
  where
    by_rest : (o : Contents) (s : Result (List Contents) inputs.Refusal) →
        with_more os (refused_as refusal_of (and_then s (λ l. Ok (o ∷ l)))) ≡ with_more (os ++ o ∷ []) (refused_as refusal_of s)
    by_rest o (Ok l) = ap (λ (l : List Contents). Ok l) (sym (append_assoc os (o ∷ []) l))
    by_rest o (Err refusal) = refl

    by_object : (r : Result Contents inputs.Cause) → ((more : List Contents) →
        with_more more (refused_as refusal_of (read_inputs (numbered (n + 1) rest))) ≡ each_from read_after (n + 1) more rest) →
        with_more os (refused_as refusal_of (and_then (at_path (n ∷ []) r) (λ o. and_then (read_inputs (numbered (n + 1) rest)) (λ l. Ok (o ∷ l)))))
        ≡ and_then (at n (refused_as cause_of_input r)) (λ o. each_from read_after (n + 1) (os ++ o ∷ []) rest)
    by_object (Ok o) later = by_rest o (read_inputs (numbered (n + 1) rest)) ∙ later (os ++ o ∷ [])
    by_object (Err cause) later = refl

pub read_goes_on : (parts : List (List ℕ)) → objects_each parts ≡ each_from read_after 0 [] parts
read_goes_on parts = with_none (objects_each parts) ∙ read_from 0 [] parts
  where
    with_none : (r : Result (List Contents) Refusal) → r ≡ with_more [] r
    with_none (Ok os) = refl
    with_none (Err refusal) = refl

-- ---- part by part

module _ (taken : List (List ℕ) → Result (List Contents) Refusal) (one : TakesOne)
    (goes_on : (parts : List (List ℕ)) → taken parts ≡ each_from one 0 [] parts) (parts : List ObjectBytes) (i : ℕ) (d : ObjectBytes)
    (os : List Contents) where
  abbrev before : List (List ℕ)
  before = each_of (take i parts)

  abbrev number : ℕ
  number = 0 + length before

  -- this part and others, after those before it
  abbrev then_each : List (List ℕ) → Result Contents Cause → Result (List Contents) Refusal
  then_each rest r = and_then (at number r) (λ o. each_from one (number + 1) (os ++ o ∷ []) rest)

  next_is : (rest : List (List ℕ)) → taken before ≡ Ok os →
      taken (before ++ (get_or parts i d).bytes.now ∷ rest) ≡ then_each rest (one os (get_or parts i d).bytes.now)
  next_is rest so_far =
      let bytes = (get_or parts i d).bytes.now in
      goes_on (before ++ bytes ∷ rest)
      ∙ each_from-append one 0 [] before (bytes ∷ rest)
      ∙ ap (λ (r : Result (List Contents) Refusal). and_then r (λ more. each_from one number more (bytes ∷ rest)))
      (sym (goes_on before) ∙ so_far)

  -- this part gave an object
  pub more_each : (o : Contents) → i < length parts → taken (each_of (take i parts)) ≡ Ok os →
      one os (get_or parts i d).bytes.now ≡ Ok o → taken (each_of (take (i + 1) parts)) ≡ Ok (os ++ o ∷ [])
  more_each o more so_far first =
      ap taken (map_more (λ (part : ObjectBytes). part.bytes.now) parts i d more)
      ∙ next_is [] so_far
      ∙ ap (then_each []) first

  -- this part was refused
  pub refused_each : (cause : Cause) → i < length parts → taken (each_of (take i parts)) ≡ Ok os →
      one os (get_or parts i d).bytes.now ≡ Err cause → taken (each_of parts) ≡ Err (record { cause = cause; place = i })
  refused_each cause more so_far first =
      let bytes_of : ObjectBytes → List ℕ = λ part. part.bytes.now in
      let rest = each_of (drop (i + 1) parts) in
      let count : number ≡ i = omega (arith, more, length-map (take i parts) bytes_of, length-take-le i parts (omega (arith, more))) in
      ap (λ (l : List ObjectBytes). taken (each_of l))
      (sym (take-append-drop i parts) ∙ ap (λ (l : List ObjectBytes). take i parts ++ l) (drop_more parts i d more))
      ∙ ap taken (map-append bytes_of (take i parts) (get_or parts i d ∷ drop (i + 1) parts))
      ∙ next_is rest so_far
      ∙ ap (then_each rest) first
      ∙ ap (λ (n : ℕ). Err (record { cause = cause; place = n })) count

  -- memory may run out for this part
  pub out_at_each : i < length parts → taken (each_of (take i parts)) ≡ Ok os →
      HasBody (get_or parts i d).bytes.now ⊎ IsOk (one os (get_or parts i d).bytes.now) → MayRunOutAt taken (each_of parts) i
  out_at_each more so_far h =
      let bytes_of : ObjectBytes → List ℕ = λ part. part.bytes.now in
      let inside : i < length (each_of parts) = omega (arith, more, length-map parts bytes_of) in (
        inside,
        subst IsOk (sym so_far ∙ ap taken (sym (take-map bytes_of i parts))) refl,
        for_this h,
      )
    where
      is_taken : (r : Result Contents Cause) → one os (get_or parts i d).bytes.now ≡ r → IsOk r →
          IsOk (taken (take (i + 1) (each_of parts)))
      is_taken (Ok o) first ok =
          let bytes_of : ObjectBytes → List ℕ = λ part. part.bytes.now in
          subst IsOk (sym (more_each o more so_far first) ∙ ap taken (sym (take-map bytes_of (i + 1) parts))) refl
      is_taken (Err cause) first ok = absurd (cc)

      for_this : HasBody (get_or parts i d).bytes.now ⊎ IsOk (one os (get_or parts i d).bytes.now) →
          HasBody (get_or (each_of parts) i []) ⊎ IsOk (taken (take (i + 1) (each_of parts)))
      for_this (inl body) =
          let bytes_of : ObjectBytes → List ℕ = λ part. part.bytes.now in
          inl (subst HasBody (sym (get_or-map bytes_of parts i d [] more)) body)
      for_this (inr ok) = inr (is_taken (one os (get_or parts i d).bytes.now) refl ok)
