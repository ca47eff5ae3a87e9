-- What is done step by step: arguments are refused or not, the output is checked, files are read, and the program is judged.
use Rattle.std.proofs.Common.{◌≡◌, Bool, true, false, ◌||◌, List, [], ◌∷◌, ◌+◌, ℕ, ◌<◌, Some, None, length, get_or, drop, sym, ap, ◌∙◌, subst, refl}
use Rattle.std.specs.Prelude.{Result, Ok, Err, is_err}
use Rattle.aout_core.specs.Decoding.{decode}
use Rattle.link_out.specs.Inputs.{object_in}
use Rattle.host.specs.{Answer.Answer, Answers.Ends as Ends_with, Answers.Stops, Arguments.Given, Events.History, Programs.DoesWords, Programs.Step}
use Rattle.host.specs.declared.{answer.Fault.Fault, answer.Fault.TheVariants.{Answered, Memory}, reasons.Reason.Reason}
use Rattle.host.proofs.ShownLemmas.{no_words, some_words, words_out}
use Rattle.v7_origin.specs.Runs.{any_refused, are_refused, call_in, given_unless, no_program, refusal_of}
use Rattle.v7_origin.specs.Whole.{Source}
use Rattle.v7_origin.proofs.ReadingLemmas.{one_left}

-- ---- the arguments

module _ (Does : Given → Step Answer) (given : Given) where
  pub refused_words : (reason : Reason) (h : History) (answer : Answer) → refusal_of given ≡ Some reason → Ends_with 2 answer →
      DoesWords Does (call_in given) h h (Ok answer)
  refused_words reason h answer is ends = no_words Does (call_in given) reason h answer (ap (given_unless given) is) ends

  pub given_words : (old new : History) (result : Result Answer Fault) → refusal_of given ≡ None → Does given old new result →
      DoesWords Does (call_in given) old new result
  given_words old new result is does = some_words Does (call_in given) given old new result (ap (given_unless given) is) does

pub ruleset by_given = (refused_words, given_words, words_out)

-- ---- the files that are refused

stops_left : (one other : Bool) (fault : Fault) → Stops one 2 fault → Stops (one || other) 2 fault
stops_left one other (Answered a) h = (ap (λ b. b || other) h.0, h.1)
stops_left one other (Memory r) h = tt

or_true : (one : Bool) → one || true ≡ true
or_true true = refl
or_true false = refl

stops_right : (one other : Bool) (fault : Fault) → Stops other 2 fault → Stops (one || other) 2 fault
stops_right one other (Answered a) h = (ap (λ b. one || b) h.0 ∙ or_true one, h.1)
stops_right one other (Memory r) h = tt

-- the next file is refused, or none of the files up to it
module _ (all : List Source) (i : ℕ) (source : Source) (within : i < length all) (at : source ≡ get_or all i source)
    (rest : any_refused all ≡ any_refused (drop i all)) where
  one_more : any_refused all ≡ is_err (object_in (decode source.bytes)) || any_refused (drop (i + 1) all)
  one_more = rest ∙ ap any_refused (one_left all i source within at)

  pub next_refused : (fault : Fault) → Stops (is_err (object_in (decode source.bytes))) 2 fault → Stops (any_refused all) 2 fault
  next_refused fault h = subst (λ b. Stops b 2 fault) (sym one_more) (stops_left _ (any_refused (drop (i + 1) all)) fault h)

  pub next_taken : is_err (object_in (decode source.bytes)) ≡ false → any_refused all ≡ any_refused (drop (i + 1) all)
  next_taken is = one_more ∙ ap (λ b. b || any_refused (drop (i + 1) all)) is

-- the first is refused, or one of the others
module _ (source : Source) (others : List Source) (sources : List Source) (is : sources ≡ source ∷ others) where
  pub first_refused : (fault : Fault) → Stops (no_program (decode source.bytes)) 2 fault → Stops (are_refused sources) 2 fault
  first_refused fault h = rw is (stops_left _ (any_refused others) fault h)

  pub other_refused : (fault : Fault) → Stops (any_refused others) 2 fault → Stops (are_refused sources) 2 fault
  other_refused fault h = rw is (stops_right (no_program (decode source.bytes)) _ fault h)

  pub none_refused : no_program (decode source.bytes) ≡ false → any_refused others ≡ false → are_refused sources ≡ false
  none_refused first rest = rw is (ap (λ b. b || any_refused others) first ∙ rest)

pub ruleset by_files = (first_refused, other_refused, none_refused)
