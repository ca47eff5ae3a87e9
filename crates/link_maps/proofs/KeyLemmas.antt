-- Elements in the order of numbers, and those of them that have one number.
use Rattle.std.proofs.Common.{◌≡◌, ℕ, zero, suc, ◌+◌, ◌<◌, ◌≤◌, Bool, true, false, cond, eqb, nat_lt, nat_le, List, [], ◌∷◌, length, take, drop}
use Rattle.std.proofs.Common.{get_or, refl, sym, ◌∙◌, ap, arith, get_or-drop, length-drop}
use Rattle.std.proofs.lemmas.Bool.Decides.{nat_tests}
use Rattle.std.specs.{List.filter, List.Sorted.IsPartitionPoint}

-- none before a place passes
skipped : {X : Type 0} (p : X → Bool) (xs : List X) (i : ℕ) → ((k : ℕ) (d : X) → 0 ≤ k → k < i → p (get_or xs k d) ≡ false) →
    filter p xs ≡ filter p (drop i xs)
skipped p [] zero h = refl
skipped p [] (suc i) h = refl
skipped p (x ∷ xs) zero h = refl
skipped p (x ∷ xs) (suc i) h =
    ap (λ (b : Bool). cond b (x ∷ filter p xs) (filter p xs)) (h 0 x (omega arith) (omega arith))
    ∙ skipped p xs i (λ k d low high. h (suc k) d (omega arith) (omega (arith, high)))

-- all before a place pass, and no others
kept : {X : Type 0} (p : X → Bool) (xs : List X) (i : ℕ) → IsPartitionPoint (λ x. p x ≡ true) (λ x. p x ≡ false) xs i → take i xs ≡ filter p xs
kept p [] zero h = refl
kept p [] (suc i) h = refl
kept p (x ∷ xs) zero h =
    kept p xs zero ((λ k d low high. absurd (omega (arith, low, high))), λ k d low high. h.1 (suc k) d (omega arith) (omega (arith, high)))
    ∙ sym (ap (λ (b : Bool). cond b (x ∷ filter p xs) (filter p xs)) (h.1 0 x (omega arith) (omega arith)))
kept p (x ∷ xs) (suc i) h =
    ap (λ ys. x ∷ ys) (kept p xs i
    ((λ k d low high. h.0 (suc k) d (omega arith) (omega (arith, high))), λ k d low high. h.1 (suc k) d (omega (arith, low)) (omega (arith, high))))
    ∙ sym (ap (λ (b : Bool). cond b (x ∷ filter p xs) (filter p xs)) (h.0 0 x (omega arith) (omega arith)))

neither_less : (a t : ℕ) → nat_lt a t ≡ false → nat_le a t ≡ true → eqb a t ≡ true
neither_less a t less most = grind (arith, nat_tests)

less_no_equal : (a t : ℕ) → nat_lt a t ≡ true → eqb a t ≡ false
less_no_equal a t less = grind (arith, nat_tests)

more_no_equal : (a t : ℕ) → nat_le a t ≡ false → eqb a t ≡ false
more_no_equal a t more = grind (arith, nat_tests)

-- those with a number are from the first that is not less up to the first that is more
pub with_number : {X : Type 0} (n : X → ℕ) (xs rest : List X) (t i j : ℕ) → rest ≡ drop i xs → i ≤ length xs → j ≤ length rest →
    IsPartitionPoint (λ x. nat_lt (n x) t ≡ true) (λ x. nat_lt (n x) t ≡ false) xs i →
    IsPartitionPoint (λ x. nat_le (n x) t ≡ true) (λ x. nat_le (n x) t ≡ false) rest j →
    take j rest ≡ filter (λ x. eqb (n x) t) xs
with_number n xs rest t i j is within fits low high =
    kept (λ x. eqb (n x) t) rest j (
      (λ k d from to.
          let not_less : nat_lt (n (get_or rest k d)) t ≡ false =
          ap (λ ys. nat_lt (n (get_or ys k d)) t) is ∙ ap (λ x. nat_lt (n x) t) (get_or-drop i xs k d)
          ∙ low.1 (i + k) d (omega arith) (omega (arith, to, fits, ap (λ ys. length ys) is, length-drop i xs, within)) in
          neither_less (n (get_or rest k d)) t not_less (high.0 k d from to)),
      λ k d from to. more_no_equal (n (get_or rest k d)) t (high.1 k d from to),
    )
    ∙ ap (filter (λ x. eqb (n x) t)) is
    ∙ sym (skipped (λ x. eqb (n x) t) xs i (λ k d from to. less_no_equal (n (get_or xs k d)) t (low.0 k d from to)))
