-- What the library answers to a request.
use Rattle.std.proofs.Common.{◌≡◌, ◌≢◌, ℕ, Bool, true, false, nat_lt, if◌then◌else◌, List, Some, None, Result, Ok, Err, IfOk, IfErr, refl, ap, ◌∙◌}
use Rattle.std.proofs.Common.{subst, sym}
use Rattle.aout_core.specs.Refusals.{refused}
use Rattle.tool_options.specs.Choices.{Choices}
use Rattle.libv7.specs.MapAnswers.{MapsParts, MayRunOutInMap, objects_each}
use Rattle.libv7.specs.RunAnswers.{RunOutput, no_run, parts_run, results_of}
use Rattle.libv7.specs.declared.cause.Cause.TheVariants.{Memory, NoWant, NotKept, ShortStruct}
use Rattle.libv7.specs.{declared.cause.Cause.Cause, declared.cause.Refusal.Refusal, declared.output.LinkOutput.LinkOutput}
use Rattle.libv7.specs.{FileAnswers.has_bit, LinkAnswers.each_of, MemoryWanted.MayRunOutInLink}
use Rattle.libv7.specs.{Left.{refused as refused_as_said, of_none, IsRefusal}, declared.answer.Answer.Answer, declared.requests.Request.Request}
use Rattle.libv7.specs.RunLeft.{AnswersBy, IsAnswer, LinksParts, RunLeft, answered, asked_in, is_enough, or_unread, unread}
use Rattle.libv7.proofs.LeftLemmas.{refusal_by}

never_by : (short unknown unkept enough : Bool) → (if short then Some ShortStruct else if unknown then Some NoWant
    else if unkept then Some NotKept else if enough then None else Some ShortStruct) ≡ Some (Memory refused) → ⊥
never_by true unknown unkept enough h = absurd (cc)
never_by false true unkept enough h = absurd (cc)
never_by false false true enough h = absurd (cc)
never_by false false false true h = absurd (cc)
never_by false false false false h = absurd (cc)

-- a request that cannot be read is refused, whatever it asks for, and memory is not why
pub unread_refused : {A : Type 0} (most : ℕ) (q : Request) (size : ℕ) (asked : Result A Refusal) (MayRunOut : ℕ → Type 0) (r : Refusal)
    (cause : Cause) → unread most q size ≡ Some cause → r ≡ of_none cause → IsRefusal (or_unread (unread most q size) asked) MayRunOut r
unread_refused most q size asked MayRunOut r cause is same =
    refusal_by (or_unread (unread most q size) asked) MayRunOut r (λ other. rw (is, same) refl)
    (λ out. absurd (never_by (nat_lt q.size 64) (nat_lt 15 q.wants) (nat_lt most q.wants) (is_enough q.wants size)
    (is ∙ ap (λ (c : Cause). Some c) (sym (ap (λ (x : Refusal). x.cause) same) ∙ out))))

module _ (q : Request) (size : ℕ) (asked : Choices × List (List ℕ)) (r : Result LinkOutput Refusal) (is : Ok asked ≡ asked_in q size) where
  abbrev parts : List (List ℕ)
  parts = each_of q.objects.now

  abbrev Links : Bool → Result LinkOutput Refusal → Type 0
  Links b x = LinksParts b q.wants asked.1 asked.0 parts x

  by_bit : (b : Bool) → has_bit q.wants 8 ≡ b → Links b r → IsAnswer q size r
  by_bit b wanted h =
      subst (λ (a : Result (Choices × List (List ℕ)) Refusal). AnswersBy a q r) is (subst (λ (x : Bool). Links x r) (sym wanted) h)

  pub map_answer : has_bit q.wants 8 ≡ true → IfOk r (λ x. MapsParts q.wants asked.1 asked.0 parts x) →
      IfErr r (λ refusal. refusal.cause ≢ Memory refused → objects_each parts ≡ Err refusal) →
      IfErr r (λ refusal. refusal.cause ≡ Memory refused → MayRunOutInMap asked.1 parts refusal.place) → IsAnswer q size r
  map_answer wanted ok err memory = by_bit true wanted (by_result r ok err memory)
    where
      by_result : (x : Result LinkOutput Refusal) → IfOk x (λ x. MapsParts q.wants asked.1 asked.0 parts x) →
          IfErr x (λ refusal. refusal.cause ≢ Memory refused → objects_each parts ≡ Err refusal) →
          IfErr x (λ refusal. refusal.cause ≡ Memory refused → MayRunOutInMap asked.1 parts refusal.place) → Links true x
      by_result (Ok x) ok err memory = ok
      by_result (Err refusal) ok err memory = refusal_by (objects_each parts) (MayRunOutInMap asked.1 parts) refusal err memory

  pub run_answer : has_bit q.wants 8 ≡ false → IfOk r (λ x. parts_run q.wants asked.1 asked.0 parts ≡ Ok (results_of x)) →
      IfErr r (λ refusal. refusal.cause ≢ Memory refused → parts_run q.wants asked.1 asked.0 parts ≡ Err refusal) →
      IfErr r (λ refusal. refusal.cause ≡ Memory refused → MayRunOutInLink asked.1 asked.0 parts refusal.place) → IsAnswer q size r
  run_answer wanted ok err memory = by_bit false wanted (by_result r ok err memory)
    where
      by_result : (x : Result LinkOutput Refusal) → IfOk x (λ x. parts_run q.wants asked.1 asked.0 parts ≡ Ok (results_of x)) →
          IfErr x (λ refusal. refusal.cause ≢ Memory refused → parts_run q.wants asked.1 asked.0 parts ≡ Err refusal) →
          IfErr x (λ refusal. refusal.cause ≡ Memory refused → MayRunOutInLink asked.1 asked.0 parts refusal.place) → Links false x
      by_result (Ok x) ok err memory = ok
      by_result (Err refusal) ok err memory =
          refusal_by (parts_run q.wants asked.1 asked.0 parts) (MayRunOutInLink asked.1 asked.0 parts) refusal err memory

pub unread_answer : (q : Request) (size : ℕ) (why : Refusal) → Err why ≡ asked_in q size → IsAnswer q size (Err why)
unread_answer q size why is = subst (λ (a : Result (Choices × List (List ℕ)) Refusal). AnswersBy a q (Err why)) is refl

pub ruleset by_answer = (map_answer, run_answer, unread_answer)

-- what is left where nothing is given
pub nothing_left : (x : LinkOutput) (said : Answer) (r : Refusal) (l after : RunLeft) → results_of x ≡ no_run → said ≡ refused_as_said r →
    after ≡ answered false 2 said (results_of x) l → after ≡ answered false 2 (refused_as_said r) no_run l
nothing_left x said r l after none is_said is =
    is
    ∙ ap (λ (a : Answer). answered false 2 a (results_of x) l) is_said
    ∙ ap (λ (o : RunOutput). answered false 2 (refused_as_said r) o l) none
