-- What the lines of a session leave: its objects are those of the files that are left, taken one after another.
use Rattle.std.proofs.Common.{rules, ◌≡◌, ℕ, Bool, true, false, List, [], ◌∷◌, ◌++◌, map, Option, Some, None, Result, Ok, Err}
use Rattle.std.proofs.{Common.{option_and_then, option_map, refl, sym, ap, ◌∙◌, subst, inl, inr}, lemmas.List.map-append}
use Rattle.std.specs.Prelude.{IfSome, eqb, unwrap_or}
use Rattle.aout_core.specs.{Contents.Contents, Decoding.decode}
use Rattle.link_session.specs.Edits.{last_of, without_last}
use Rattle.link_session.specs.{declared.entry.AddFault.AddFault, Labelled.Labelled, Labelled.objects, Limits.refusal}
use Rattle.link_out.specs.Inputs.{Cause, Refusal, not_added, at_path, kept_with, object_in, with_input, with_inputs}
use Rattle.link_out.specs.{declared.linked.LinkFault.LinkFault, function.Link.{Outcome, link}, Steps.{and_then, unless}}
use Rattle.link_session.proofs.EditLemmas.{without_last-put_last}
use Rattle.tool_options.specs.Choices.{Choices}
use Rattle.host.specs.Events.{Event, Opened}
use Rattle.command_words.specs.Scripts.{Asked, to_add, to_withdraw, for_externals, for_undefined, to_link, for_nothing}
use Rattle.v7tools.specs.Answers.{refused, Stepped, add_step, withdraw_step}
use Rattle.v7tools.specs.LineRuns.{DoesStep, IsAddOf, IsAddWorking, IsLineOf, LineRun, OpensOne, status_after}
use Rattle.v7tools.specs.{LinkAnswers.Input, LinkAnswers.Takes, LinkAnswers.TakesAll, LinkAnswers.known_inputs, LinkRuns.inputs_opened}
use Rattle.v7tools.specs.{SessionRuns.Chains, SessionSteps.IsLinkBy}
use Rattle.laws.specs.{Disks.Disk, SessionsByCommands.AreThere, SessionsByCommands.left_after, SessionsByCommands.left_by}

pub same_value : {A B : Type 0} (a b : A) → (let x : Result A B = Ok a in let y : Result A B = Ok b in x ≡ y) → a ≡ b
same_value a b e = cc

-- ---- inputs that are taken, one more and one less

takes_more : (forced : List (List ℕ)) (kept mid more : List Labelled) (is : List Input) (i : Input) → TakesAll forced kept is mid →
    Takes forced mid i more → TakesAll forced kept (is ++ i ∷ []) more
takes_more forced kept mid more [] i h k = (more, subst (λ (es : List Labelled). Takes forced es i more) h k, refl)
takes_more forced kept mid more (j ∷ js) i (next, takes, rest) k = (next, takes, takes_more forced next mid more js i rest k)

longer : (fault : Option AddFault) (kept more : List Labelled) (e : Labelled) →
    (let it : Result (List Labelled) Cause = Ok more in unless not_added fault (kept ++ e ∷ []) ≡ it) → more ≡ kept ++ e ∷ []
longer None kept more e h = cc
longer (Some fault) kept more e h = absurd (cc)

takes_less : (forced : List (List ℕ)) (kept more : List Labelled) (i : Input) (is : List Input) →
    TakesAll forced kept (i ∷ is) more → TakesAll forced kept (without_last (i ∷ is)) (without_last more)
takes_less forced kept more i [] (next, takes, same) = search (rules, longer, without_last-put_last)
takes_less forced kept more i (j ∷ js) (next, takes, rest) = (next, takes, takes_less forced next more j js rest)

takes_but_last : (forced : List (List ℕ)) (more : List Labelled) (is : List Input) → TakesAll forced [] is more →
    TakesAll forced [] (without_last is) (without_last more)
takes_but_last forced more [] h = ap without_last h
takes_but_last forced more (i ∷ is) h = takes_less forced [] more i is h

inputs_but_last : (left : List Opened) → inputs_opened (without_last left) ≡ without_last (inputs_opened left)
inputs_but_last (f ∷ (g ∷ fs)) =
    ap (λ (is : List Input). record { path = f.0; known = f.1; has_failed = false } ∷ is) (inputs_but_last (g ∷ fs))
inputs_but_last _ = refl

-- ---- line by line

-- a session keeps the objects of the files that are left
abbrev pub IsLeft : List (List ℕ) → List Opened → List Labelled → Type 0
IsLeft forced left kept = TakesAll forced [] (inputs_opened left) kept

-- an addition that neither the device nor memory prevented
pub record AddsFound (known : Option (List ℕ)) (forced : List (List ℕ)) (old : List Labelled) (path : List ℕ)
    (did : Stepped) : Type 0 where
  pub found : Result Contents Cause
  pub is_found : IfSome known (λ bytes. found ≡ object_in (decode bytes))
  pub did_it : did ≡ add_step old path (kept_with forced old path found)

pub adds_found : (known : Option (List ℕ)) (forced : List (List ℕ)) (old : List Labelled) (path : List ℕ) (did : Stepped) →
    IsAddWorking known forced old path did → AddsFound known forced old path did
adds_found None forced old path did (found, sound, e) = record { found = found; is_found = tt; did_it = e }
adds_found (Some bytes) forced old path did e = record { found = object_in (decode bytes); is_found = refl; did_it = e }

-- a link keeps what was kept
link_keeps : (kept : List Labelled) (answer : Result Outcome LinkFault) (did : Stepped) → IsLinkBy kept answer did → did.kept ≡ kept
link_keeps kept (Ok x) did (inl e) = ap (λ (s : Stepped). s.kept) e
link_keeps kept (Err fault) did (inl e) = ap (λ (s : Stepped). s.kept) e
link_keeps kept answer did (inr (e, some)) = ap (λ (s : Stepped). s.kept) e

module _ (o : Choices) (forced : List (List ℕ)) (left : List Opened) (old : List Labelled) (r : LineRun) (is : IsLeft forced left old) where
  abbrev Next : Asked → Bool → Type 0
  Next a b = IsLeft forced (left_by a b r.events left) r.kept

  stays : r.kept ≡ old → IsLeft forced left r.kept
  stays same = subst (IsLeft forced left) (sym same) is

  is_zero : (n : ℕ) → r.status ≡ n → eqb r.status 0 ≡ eqb n 0
  is_zero n e = ap (λ (n : ℕ). eqb n 0) e

  not_added_line : (path : List ℕ) (asked : List Event) (did : Stepped) (answer : List ℕ) →
      (let none : Stepped = record { verdict = refused; answer = answer; kept = old } in did ≡ none) → DoesStep asked did r →
      Next (to_add path) (eqb r.status 0)
  not_added_line path asked did answer e does =
      subst (Next (to_add path)) (sym (is_zero 1 (does.status ∙ ap (λ (s : Stepped). status_after s.verdict) e)))
      (stays (does.kept ∙ ap (λ (s : Stepped). s.kept) e))

  added_line : (path : List ℕ) (h : OpensOne forced old path r) (object : Contents) (fault : Option AddFault) →
      refusal forced (objects old) object ≡ fault → IfSome h.known (λ bytes. Ok object ≡ object_in (decode bytes)) →
      h.did ≡ add_step old path (unless not_added fault (old ++ record { label = path; object = object } ∷ [])) →
      Next (to_add path) (eqb r.status 0)
  added_line path h object (Some fault) limit found e = not_added_line path _ h.did _ e h.does
  added_line path h object None limit found e =
      subst (Next (to_add path)) (sym (is_zero 0 (h.does.status ∙ ap (λ (s : Stepped). status_after s.verdict) e)))
      (subst (λ (events : List Event). IsLeft forced (left_by (to_add path) true events left) r.kept) (sym h.does.events) all)
    where
      i : Input
      i = record { path = path; known = h.known; has_failed = false }

      whole : List Labelled
      whole = old ++ record { label = path; object = object } ∷ []

      takes : Takes forced old i whole
      takes = search rules

      all : TakesAll forced [] (inputs_opened (left ++ (path, h.known) ∷ [])) r.kept
      all =
          subst (λ (es : List Labelled). TakesAll forced [] (inputs_opened (left ++ (path, h.known) ∷ [])) es)
          (sym (h.does.kept ∙ ap (λ (s : Stepped). s.kept) e))
          (subst (λ (is : List Input). TakesAll forced [] is whole)
          (sym (map-append (λ (f : Opened). let i : Input = record { path = f.0; known = f.1; has_failed = false } in i) left
          ((path, h.known) ∷ []))) (takes_more forced [] old whole (inputs_opened left) i is takes))

  found_line : (path : List ℕ) (h : OpensOne forced old path r) (found : Result Contents Cause) →
      IfSome h.known (λ bytes. found ≡ object_in (decode bytes)) → h.did ≡ add_step old path (kept_with forced old path found) →
      Next (to_add path) (eqb r.status 0)
  found_line path h (Err cause) is_found e = not_added_line path _ h.did _ e h.does
  found_line path h (Ok object) is_found e = added_line path h object (refusal forced (objects old) object) refl is_found e

  opened_line : (path : List ℕ) (h : OpensOne forced old path r) (failed : Bool) → IsAddOf h.known failed forced old path h.did →
      Next (to_add path) (eqb r.status 0)
  opened_line path h true e = not_added_line path _ h.did _ e h.does
  opened_line path h false (inl (e, wants)) = not_added_line path _ h.did _ e h.does
  opened_line path h false (inr k) = let f = adds_found h.known forced old path h.did k in found_line path h f.found f.is_found f.did_it

  withdrawn_line : (last : Option Labelled) → DoesStep [] (withdraw_step old last) r → Next to_withdraw (eqb r.status 0)
  withdrawn_line None does = subst (Next to_withdraw) (sym (is_zero 1 does.status)) (stays does.kept)
  withdrawn_line (Some e) does =
      subst (Next to_withdraw) (sym (is_zero 0 does.status))
      (subst (λ (is : List Input). TakesAll forced [] is r.kept) (sym (inputs_but_last left))
      (subst (λ (es : List Labelled). TakesAll forced [] (without_last (inputs_opened left)) es) (sym does.kept)
      (takes_but_last forced old (inputs_opened left) is)))

  left_line : (a : Asked) → IsLineOf forced o old r a → Next a (eqb r.status 0)
  left_line (to_add path) (inl does) = not_added_line path _ _ _ refl does
  left_line (to_add path) (inr h) = opened_line path h h.failed h.is_add
  left_line to_withdraw does = withdrawn_line (last_of old) does
  left_line for_externals does = stays does.kept
  left_line for_undefined does = stays does.kept
  left_line (to_link path) (inl h) = stays (h.does.kept ∙ link_keeps old (link forced (objects old) o) h.did h.is_link)
  left_line (to_link path) (inr h) = stays h.same
  left_line for_nothing does = stays does.kept

-- what a chain of lines leaves
pub left_lines : (o : Choices) (forced : List (List ℕ)) (left : List Opened) (old : List Labelled) (runs : List LineRun)
    (new : List Labelled) → IsLeft forced left old → Chains forced o old runs new → IsLeft forced (left_after left runs) new
left_lines o forced left old [] new is same = subst (IsLeft forced left) (sym same) is
left_lines o forced left old (r ∷ rs) new is (line, rest) =
    left_lines o forced (left_by r.line (eqb r.status 0) r.events left) r.kept rs new (left_line o forced left old r is r.line line) rest

-- a line of a chain, with what is kept before it
pub record IsAt (forced : List (List ℕ)) (o : Choices) (old : List Labelled) (before : List LineRun) (r : LineRun)
    (after : List LineRun) (new : List Labelled) : Type 0 where
  pub mid : List Labelled
  pub first : Chains forced o old before mid
  pub line : IsLineOf forced o mid r r.line
  pub rest : Chains forced o r.kept after new

pub at_line : (forced : List (List ℕ)) (o : Choices) (old : List Labelled) (before : List LineRun) (r : LineRun) (after : List LineRun)
    (new : List Labelled) → Chains forced o old (before ++ r ∷ after) new → IsAt forced o old before r after new
at_line forced o old [] r after new (line, rest) = record { mid = old; first = refl; line = line; rest = rest }
at_line forced o old (s ∷ ss) r after new (line, rest) = search (rules, (at_line forced o s.kept ss r after new rest))

-- ---- the bytes of the files that are left

abbrev pub bytes_of : List Opened → List (List ℕ × List ℕ)
bytes_of left = map (λ f. (f.0, unwrap_or f.1 [])) left

pub all_known : (disk : Disk) (left : List Opened) → AreThere disk left → known_inputs (inputs_opened left) ≡ Some (bytes_of left)
all_known disk [] h = refl
all_known disk (f ∷ fs) h =
    ap (λ (k : Option (List ℕ)).
    option_and_then (λ bytes. option_map (λ rest. (f.0, bytes) ∷ rest) (known_inputs (inputs_opened fs))) k) h.0.read
    ∙ ap (λ (k : Option (List (List ℕ × List ℕ))). option_map (λ rest. (f.0, h.0.bytes) ∷ rest) k) (all_known disk fs h.1)
    ∙ ap (λ (k : Option (List ℕ)). Some ((f.0, unwrap_or k []) ∷ bytes_of fs)) (sym h.0.read)

pub taken_bytes : (disk : Disk) (forced : List (List ℕ)) (left : List Opened) (kept more : List Labelled) → AreThere disk left →
    TakesAll forced kept (inputs_opened left) more → with_inputs forced kept (bytes_of left) ≡ Ok more
taken_bytes disk forced [] kept more h same = ap (λ (es : List Labelled). Ok es) (sym same)
taken_bytes disk forced (f ∷ fs) kept more h (next, takes, rest) =
    ap (λ (k : Option (List ℕ)). by (with_input forced kept f.0 (unwrap_or k []))) h.0.read ∙ ap by took
    ∙ taken_bytes disk forced fs next more h.1 rest
  where
    by : Result (List Labelled) Cause → Result (List Labelled) Refusal
    by x = and_then (at_path f.0 x) (λ es. with_inputs forced es (bytes_of fs))

    found : Ok takes.object ≡ object_in (decode h.0.bytes)
    found = subst (λ (k : Option (List ℕ)). IfSome k (λ bytes. Ok takes.object ≡ object_in (decode bytes))) h.0.read takes.is_found

    took : with_input forced kept f.0 h.0.bytes ≡ Ok next
    took = ap (kept_with forced kept f.0) (sym found) ∙ takes.accepts
