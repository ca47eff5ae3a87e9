-- What follows the last slash of a path, by the first.
use Rattle.std.proofs.Common.{◌≡◌, ◌≢◌, ℕ, suc, ◌<◌, List, [], ◌∷◌, ◌++◌, length, get_or, refl, arith, ne_eqb}
use Rattle.v7_from_gnu.specs.Calls.{after_slash_or}

abbrev pub Lacks : List ℕ → Type 0
Lacks xs = (i : ℕ) → i < length xs → get_or xs i 0 ≢ 47

pub slash_passed : (found front back : List ℕ) → Lacks front → after_slash_or found (front ++ 47 ∷ back) ≡ after_slash_or back back
slash_passed found [] back h = refl
slash_passed found (b ∷ bs) back h =
    rw (ne_eqb b 47 (h 0 (omega arith))) (slash_passed found bs back (λ i less. h (suc i) (omega arith)))

pub no_slash : (found text : List ℕ) → Lacks text → after_slash_or found text ≡ found
no_slash found [] h = refl
no_slash found (b ∷ bs) h = rw (ne_eqb b 47 (h 0 (omega arith))) (no_slash found bs (λ i less. h (suc i) (omega arith)))
