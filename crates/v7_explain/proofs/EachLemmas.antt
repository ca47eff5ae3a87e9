-- What is done at paths one after another, from what comes of those that are left.
use Rattle.std.proofs.Common.{◌≡◌, ℕ, ◌<◌, ◌+◌, true, List, [], ◌∷◌, length, map, drop, get_or, string_bytes}
use Rattle.std.proofs.Common.{Bool, if◌then◌else◌, is_err, refl, sym, ap, ◌∙◌, subst, inl, inr}
use Rattle.std.proofs.lemmas.List.{drop_more}
use Rattle.std.specs.{Prelude.Result, Prelude.Ok, Prelude.Err, Prelude.String, declared.alloc.Global.Global}
use Rattle.aout_core.specs.{Contents.Contents, Decoding.decode, Refusals.refused}
use Rattle.link_out.specs.Inputs.{Cause, object_in}
use Rattle.host.specs.{Answer.Answer, Answers.Stops, Events.History, Programs.Step, declared.answer.Fault.Fault}
use Rattle.host.specs.Sources.{EndsReading}
use Rattle.host.specs.declared.answer.Fault.TheVariants as faults
use Rattle.v7_explain.specs.{Files.{GivesOr, HasStatus, joined, most_bytes, nothing_said}, Runs.{Answers, IsEach, said_of, status_taken}}

-- ---- one file

-- there is no memory for an answer
pub gives_out : (Holds : Answer → Type 0) (result : Result Answer Fault) → result ≡ Err (faults.Memory refused) → GivesOr Holds result
gives_out Holds result memory = subst (GivesOr Holds) (sym memory) refl

module _ (ReadsBy : History → History → List ℕ → List ℕ → Type 0) (Says : List ℕ → Answer → Type 0) (path : List ℕ)
    (old new : History) where
  -- it is read, and there is no memory for what is said of it
  pub answers_out : (bytes : List ℕ) (result : Result Answer Fault) → ReadsBy old new path bytes →
      result ≡ Err (faults.Memory refused) → Answers ReadsBy Says path old new result
  answers_out bytes result reads memory = inl (bytes, reads, gives_out (Says bytes) result memory)

  -- it is not read, and the answer says so
  pub answers_none : (fault : Fault) (given answer : Answer) → fault ≡ faults.Answered given → EndsReading most_bytes old new path fault →
      answer ≡ given → Answers ReadsBy Says path old new (Ok answer)
  answers_none fault given answer is ends same =
      let answered : Answer → Result Answer Fault = λ a. Ok a in inr (fault, ends, ap answered same ∙ sym (ap said_of is))

  -- it is not read, and there is no memory to say so
  pub answers_unread : (fault : Fault) → fault ≡ faults.Memory refused → EndsReading most_bytes old new path fault →
      Answers ReadsBy Says path old new (Err (faults.Memory refused))
  answers_unread fault is ends = inr (fault, ends, sym (ap said_of is))

-- ---- the object in a file

-- it is taken
pub taken_object : (bytes : List ℕ) (o : Contents) (a : Answer) → object_in (decode bytes) ≡ Ok o → a ≡ nothing_said →
    HasStatus (status_taken bytes) a
taken_object bytes o a is said =
    ap (λ (x : Answer). x.status) said ∙ sym (ap (λ (r : Result Contents Cause). if is_err r then 1 else 0) is)

-- there is none
pub taken_none : (bytes : List ℕ) (fault : Fault) (a : Answer) → Stops (is_err (object_in (decode bytes))) 1 fault →
    fault ≡ faults.Answered a → HasStatus (status_taken bytes) a
taken_none bytes fault a stops is =
    let ends = subst (Stops (is_err (object_in (decode bytes))) 1) is stops in
    ends.1.has_status ∙ sym (ap (λ (b : Bool). if b then 1 else 0) ends.0)

pub ruleset by_taken = (taken_object, taken_none)

-- ---- one after another

-- what is left of a list
pub one_left : {A : Type 0} → (all : List A) (i : ℕ) (x : A) → i < length all → x ≡ get_or all i x → drop i all ≡ x ∷ drop (i + 1) all
one_left {A = A} all i x within at = drop_more all i x within ∙ ap (λ (y : A). y ∷ drop (i + 1) all) (sym at)

-- the paths that are left
pub paths_left : (all : List (String Global)) (i : ℕ) (item : String Global) (path : List ℕ) → i < length all → item ≡ get_or all i item →
    path ≡ string_bytes item → map string_bytes (drop i all) ≡ path ∷ map string_bytes (drop (i + 1) all)
paths_left all i item path within at is =
    ap (λ (l : List (String Global)). map string_bytes l) (one_left all i item within at)
    ∙ ap (λ (p : List ℕ). p ∷ map string_bytes (drop (i + 1) all)) (sym is)

-- what comes of the paths that are left comes of all
abbrev pub GoesOn : (List ℕ → Step Answer) → History → History → Answer → List (List ℕ) → List (List ℕ) → Type 0
GoesOn Does old mid said left all =
    (new : History) → (result : Result Answer Fault) → IsEach Does left said mid new result → IsEach Does all nothing_said old new result

module _ (Does : List ℕ → Step Answer) (old mid new : History) (said : Answer) (left later all : List (List ℕ)) (path : List ℕ) where
  -- there is no answer to one
  pub each_ends : (fault : Fault) (result : Result Answer Fault) → GoesOn Does old mid said left all → left ≡ path ∷ later →
      Does path mid new (Err fault) → result ≡ Err fault → IsEach Does all nothing_said old new result
  each_ends fault result inv e does is =
      inv new result (subst (λ l. IsEach Does l said mid new result) (sym e) (Err fault, new, does, (refl, is)))

  -- one is answered, and there is no memory to add that
  pub each_stops : (more : Answer) (result : Result Answer Fault) → GoesOn Does old mid said left all → left ≡ path ∷ later →
      Does path mid new (Ok more) → result ≡ Err (faults.Memory refused) → IsEach Does all nothing_said old new result
  each_stops more result inv e does memory =
      inv new result (subst (λ l. IsEach Does l said mid new result) (sym e) (Ok more, new, does, inl (refl, memory)))

  -- one is answered, and that is added
  pub each_more : (more longer : Answer) → GoesOn Does old mid said left all → left ≡ path ∷ later →
      Does path mid new (Ok more) → longer ≡ joined said more → GoesOn Does old new longer later all
  each_more more longer inv e does is last result h =
      inv last result (subst (λ l. IsEach Does l said mid last result) (sym e)
      (Ok more, new, does, inr (subst (λ a. IsEach Does later a new last result) is h)))
