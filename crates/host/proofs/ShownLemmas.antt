-- What is done, by what the first argument asks to be shown, and by what the arguments ask for.
use Rattle.std.proofs.Common.{◌≡◌, [], Option, Some, None, refl, sym, ap, subst, inl, inr}
use Rattle.std.specs.Prelude.{Result, Ok, Err}
use Rattle.aout_core.specs.Refusals.{refused}
use Rattle.host.specs.{Arguments.{Given, if_given}, declared.shown.Shown.Shown, Answer.Answer, Answers.{Ends, IsShownOr}}
use Rattle.host.specs.{Events.History, Programs.{CallsOr, DoesWords, Step}, declared.answer.Fault.Fault}
use Rattle.host.specs.declared.reasons.Reason.{Reason}
use Rattle.host.specs.declared.answer.Fault.TheVariants as faults

-- something is shown
pub is_shown : (asked : Option Shown) (shown : Shown) (h : History) (answer : Answer) (rest : Type 0) →
    asked ≡ Some shown → (answer.errors ≡ []) × (answer.status ≡ 0) → IsShownOr asked h h (Ok answer) rest
is_shown asked shown h answer rest is shows = subst (λ (by : Option Shown). IsShownOr by h h (Ok answer) rest) (sym is) (refl, shows)

-- memory runs out for what is to be shown
pub is_shown_out : (asked : Option Shown) (shown : Shown) (h : History) (result : Result Answer Fault) (rest : Type 0) →
    asked ≡ Some shown → result ≡ Err (faults.Memory refused) → IsShownOr asked h h result rest
is_shown_out asked shown h result rest is memory =
    subst (λ (by : Option Shown). IsShownOr by h h result rest) (sym is)
    (subst (λ (r : Result Answer Fault). IsShownOr (Some shown) h h r rest) (sym memory) (refl, tt))

-- nothing is shown
pub is_not_shown : (asked : Option Shown) (old new : History) (result : Result Answer Fault) (rest : Type 0) →
    asked ≡ None → rest → IsShownOr asked old new result rest
is_not_shown asked old new result rest is h = subst (λ (by : Option Shown). IsShownOr by old new result rest) (sym is) h

pub ruleset by_shown = (is_shown, is_shown_out, is_not_shown)

module _ {C : Type 0} (Does : C → Step Answer) (asked : Result C Reason) where
  -- the arguments are refused
  pub no_words : (reason : Reason) (h : History) (answer : Answer) → asked ≡ Err reason → Ends 2 answer →
      DoesWords Does asked h h (Ok answer)
  no_words reason h answer is ends = inr (subst (λ (by : Result C Reason). CallsOr Does by h h (Ok answer)) (sym is) (refl, ends))

  -- the call that they ask for is done
  pub some_words : (call : C) (old new : History) (result : Result Answer Fault) → asked ≡ Ok call → Does call old new result →
      DoesWords Does asked old new result
  some_words call old new result is h = inr (subst (λ (by : Result C Reason). CallsOr Does by old new result) (sym is) h)

  -- memory runs out for them
  pub words_out : (h : History) → DoesWords Does asked h h (Err (faults.Memory refused))
  words_out h = inl (refl, refl)

pub ruleset by_words = (no_words, some_words, words_out)

module _ {C : Type 0} (Does : C → Step Answer) (next : Given → Result C Reason) (read : Result Given Reason) where
  -- the arguments are not read
  pub not_read : (reason : Reason) (h : History) (answer : Answer) → read ≡ Err reason → Ends 2 answer →
      DoesWords Does (if_given read next) h h (Ok answer)
  not_read reason h answer is ends =
      no_words Does (if_given read next) reason h answer (ap (λ (by : Result Given Reason). if_given by next) is) ends

  -- what they give asks for a call, or is refused
  pub is_read : (given : Given) (old new : History) (result : Result Answer Fault) → read ≡ Ok given →
      DoesWords Does (next given) old new result → DoesWords Does (if_given read next) old new result
  is_read given old new result is h = subst (λ (by : Result Given Reason). DoesWords Does (if_given by next) old new result) (sym is) h

  -- memory runs out for them
  pub read_out : (h : History) → DoesWords Does (if_given read next) h h (Err (faults.Memory refused))
  read_out h = words_out Does (if_given read next) h

pub ruleset by_read = (not_read, is_read, read_out)
