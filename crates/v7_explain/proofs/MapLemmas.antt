-- What the arguments of a map ask for.
use Rattle.std.proofs.Common.{◌≡◌, ℕ, List, refl, subst, inl, inr}
use Rattle.std.specs.{Prelude.{Result, Ok, Err, String, Vec}, declared.alloc.Global.Global}
use Rattle.aout_core.specs.Refusals.{refused}
use Rattle.command_words.specs.Calls.{AsksForNone, IsAsked, IsWhole, dashes_in, files_of}
use Rattle.command_words.specs.declared.words.Call.TheVariants.{Ld, Nm, Session, Size, Strip}
use Rattle.command_words.specs.{declared.fault.WordsFault.TheVariants.Usage, declared.words.Call.Call}
use Rattle.host.specs.{Answer.Answer, Answers.EndsOr, Events.History, declared.answer.Fault.Fault}
use Rattle.host.specs.declared.answer.Fault.TheVariants as faults
use Rattle.tool_options.specs.Choices.{Choices}
use Rattle.v7_explain.specs.Runs.{MapsCall, MapsWords, link_words}

-- memory runs out for them
pub words_out : (words : List (List ℕ)) (old new : History) (result : Result Answer Fault) → new ≡ old →
    result ≡ Err (faults.Memory refused) → MapsWords words old new result
words_out words old new result same memory = inl (same, memory)

-- they ask for no call
pub words_none : (words all : List (List ℕ)) (old new : History) (result : Result Answer Fault) → all ≡ link_words words →
    AsksForNone all Usage → new ≡ old → EndsOr 2 result → MapsWords words old new result
words_none words all old new result same none still answers =
    inr (inl (subst (λ (ws : List (List ℕ)). AsksForNone ws Usage) same none, still, answers))

-- they ask for a call, which is mapped
pub words_asked : (words all : List (List ℕ)) (call : Call) (old new : History) (result : Result Answer Fault) → all ≡ link_words words →
    IsWhole call → IsAsked all call → dashes_in all ≡ dashes_in (files_of call) → MapsCall call old new result →
    MapsWords words old new result
words_asked words all call old new result same whole asked dashes maps =
    inr (inr (
      call,
      whole,
      subst (λ (ws : List (List ℕ)). IsAsked ws call) same asked,
      subst (λ (ws : List (List ℕ)). dashes_in ws ≡ dashes_in (files_of call)) same dashes,
      maps,
    ))

pub ruleset by_words = (words_out, words_none, words_asked)

-- another call is not mapped
pub maps_other : (call : Call) (old new : History) (result : Result Answer Fault) →
    ((options : Choices) → (forced : List (List ℕ)) → (out : String Global) → (files : Vec (String Global) Global) →
    call ≡ Ld options forced out files → ⊥) →
    new ≡ old → EndsOr 2 result → MapsCall call old new result
maps_other (Ld options forced out files) old new result never still answers = absurd (never options forced out files refl)
maps_other (Nm options files) old new result never still answers = (still, answers)
maps_other (Size files) old new result never still answers = (still, answers)
maps_other (Strip files) old new result never still answers = (still, answers)
maps_other (Session options forced) old new result never still answers = (still, answers)
