-- A call as the code has it; and the arguments of a map.
use Rattle.std.proofs.Common.{◌≡◌, ℕ, ◌-◌, ◌<◌, ◌≤◌, Bool, true, List, [], ◌∷◌, length, map, take, drop, Option, Some, None, refl}
use Rattle.std.proofs.{Common.{sym, ap, ◌∙◌, subst, inl, arith}, lemmas.List.take_all}
use Rattle.std.specs.{Prelude.{Ok, Err, Result, String, codes, string_bytes, if◌then◌else◌}, declared.alloc.Global.Global}
use Rattle.aout_core.specs.{Refusals.refused, Words.letter_of}
use Rattle.host.proofs.ShownLemmas.{some_words}
use Rattle.host.specs.{Answer.Answer, Answers.Ends, Events.History, declared.answer.Fault.Fault}
use Rattle.host.specs.Programs.{CallsOr, DoesWords}
use Rattle.host.specs.{declared.reasons.Reason.Reason, declared.reasons.Reason.TheVariants.NoValue}
use Rattle.host.specs.declared.answer.Fault.TheVariants as faults
use Rattle.v7_explain.specs.{Calls.{after_map, asked_in, asked_or, map_link, words_of_link}, Runs.{IsCall, MapsWords}}
use Rattle.v7_explain.specs.{declared.arguments.Call.Call as Code, internal.Asked.{asks_of_map, call_in}}

-- a call is done, as the code has it
pub call_done : (call same : Code) (old new : History) (result : Result Answer Fault) → call ≡ same →
    IsCall (call_in same) old new result → IsCall (call_in call) old new result
call_done call same old new result is h = subst (λ (it : Code). IsCall (call_in it) old new result) (sym is) h

-- the arguments are of a map
pub of_map : (words rest : List (List ℕ)) (old new : History) (result : Result Answer Fault) → after_map words ≡ Some rest →
    CallsOr MapsWords (words_of_link rest) old new result → DoesWords IsCall (asked_in words) old new result
of_map words rest old new result is h =
    subst (λ (by : Option (List (List ℕ))). DoesWords IsCall (asked_or by words) old new result) (sym is)
    (some_words IsCall (Ok (map_link rest)) (map_link rest) old new result refl h)

-- the arguments are not of a map
pub of_files : (words : List (List ℕ)) (old new : History) (result : Result Answer Fault) → after_map words ≡ None →
    DoesWords IsCall (asked_or None words) old new result → DoesWords IsCall (asked_in words) old new result
of_files words old new result is h =
    subst (λ (by : Option (List (List ℕ))). DoesWords IsCall (asked_or by words) old new result) (sym is) h

pub ruleset by_first = (of_map, of_files)

-- one argument more
argument_taken : (words rest : List (List ℕ)) (word argument : List ℕ) → words ≡ word ∷ argument ∷ rest → asks_of_map words ≡ true →
    words_of_link words ≡ words_of_link rest
argument_taken words rest word argument are asks =
    ap words_of_link are
    ∙ ap (λ (b : Bool). if b then words_of_link rest else Ok (word ∷ argument ∷ rest)) (sym (ap asks_of_map are) ∙ asks)

-- as the code has it
pub argument_taken_at : (words after : List (String Global)) → 2 ≤ length words → after ≡ take (length words - 2) (drop 2 words) →
    asks_of_map (map string_bytes words) ≡ true → words_of_link (map string_bytes words) ≡ words_of_link (map string_bytes after)
argument_taken_at [] after two left asks = absurd (omega (arith, two))
argument_taken_at (w ∷ []) after two left asks = absurd (omega (arith, two))
argument_taken_at (w ∷ n ∷ rest) after two left asks =
    let whole : after ≡ rest = left ∙ take_all (length (w ∷ n ∷ rest) - 2) rest (omega (arith)) in
    argument_taken (map string_bytes (w ∷ n ∷ rest)) (map string_bytes rest) (string_bytes w) (string_bytes n) refl asks
    ∙ ap (λ (l : List (String Global)). words_of_link (map string_bytes l)) (sym whole)

-- the argument is missing
pub argument_missing : (words : List (String Global)) → length words < 2 → asks_of_map (map string_bytes words) ≡ true →
    words_of_link (map string_bytes words) ≡ Err (NoValue (letter_of (codes "y")))
argument_missing [] few asks = absurd cc
argument_missing (w ∷ []) few asks =
    let by : Bool → Result (List (List ℕ)) Reason =
    λ b. if b then Err (NoValue (letter_of (codes "y"))) else Ok (string_bytes w ∷ []) in
    ap by asks
argument_missing (w ∷ n ∷ rest) few asks = absurd (omega (arith, few))

out_of : (asked : Result (List (List ℕ)) Reason) (h : History) → CallsOr MapsWords asked h h (Err (faults.Memory refused))
out_of (Err reason) h = (refl, tt)
out_of (Ok words) h = inl (refl, refl)

-- memory runs out for the arguments
pub asked_out : (words : List (List ℕ)) (h : History) → CallsOr MapsWords (words_of_link words) h h (Err (faults.Memory refused))
asked_out words h = out_of (words_of_link words) h

-- they are refused
pub asked_none : (words : List (List ℕ)) (reason : Reason) (h : History) (answer : Answer) → words_of_link words ≡ Err reason →
    Ends 2 answer → CallsOr MapsWords (words_of_link words) h h (Ok answer)
asked_none words reason h answer is ends =
    subst (λ (by : Result (List (List ℕ)) Reason). CallsOr MapsWords by h h (Ok answer)) (sym is) (refl, ends)

-- a map is asked for, and made
pub asked_some : (words rest : List (List ℕ)) (old new : History) (result : Result Answer Fault) → words_of_link words ≡ Ok rest →
    MapsWords rest old new result → CallsOr MapsWords (words_of_link words) old new result
asked_some words rest old new result is h =
    subst (λ (by : Result (List (List ℕ)) Reason). CallsOr MapsWords by old new result) (sym is) h

pub ruleset by_asked = (asked_out, asked_none, asked_some)
