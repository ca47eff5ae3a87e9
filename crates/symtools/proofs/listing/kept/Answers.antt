use Rattle.std.proofs.Common.{rules, ◌≡◌, ℕ, suc, zero, ◌<◌, Bool, true, false, cond, List, [], ◌∷◌, length, slice_index_or, filter, sym}
use Rattle.std.proofs.{Common.{◌∙◌, arith}, lemmas.Bool.cond-true, lemmas.Grind.common_steps, lemmas.Result.MatchResult-from_err}
use Rattle.symtools.proofs.listing.kept.Goals as goal

-- something is kept where one item passes
one_kept : {X : Type 0} (p : X → Bool) (xs : List X) (i : ℕ) (d : X) → i < length xs →
    p (slice_index_or xs i d) ≡ true → filter p xs ≡ [] → ⊥
one_kept p [] i d within passes none = absurd (omega arith)
one_kept p (x ∷ xs) zero d within passes none = let clash = sym (cond-true _ _ _ passes) ∙ none in cc
one_kept p (x ∷ xs) (suc i) d within passes none = by_test (p x) (one_kept p xs i d (omega arith) passes) none
  where
    by_test : (t : Bool) → (filter p xs ≡ [] → ⊥) → cond t (x ∷ filter p xs) (filter p xs) ≡ [] → ⊥
    by_test true some none = cc
    by_test false some none = some none

pub returns-in_err-push-clause-shows : goal.returns-in_err-push-clause-shows
returns-in_err-push-clause-shows c = search (rules, MatchResult-from_err, one_kept)

pub loop-symbol-preserved : goal.loop-symbol-preserved
loop-symbol-preserved c = grind (arith, common_steps)
