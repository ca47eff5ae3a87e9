-- A stable sort puts a list in the order that insertion gives it.
use Rattle.std.proofs.Common.{rules, ◌≡◌, ℕ, suc, ◌<◌, ◌≤◌, Bool, true, false, true≢false, not, ◌&&◌, cond, List, [], ◌∷◌, length, get_or}
use Rattle.std.proofs.Common.{filter, refl, sym, ap, ◌∙◌, arith, inl, inr}
use Rattle.std.proofs.{lemmas.Bool.cond-true, lemmas.Bool.cond-false, lemmas.Bool.cases_Bool, lemmas.List.Sorted.sorted_far}
use Rattle.std.specs.{List.Sorted.ties, List.Sorted.IsSortedBy, List.Sorted.IsStableBy, Cmp.IsStrictWeakOrder}
use Rattle.symtools.specs.NmLists.{inserted, in_order}

module _ {X : Type 0} where
  filter-kept : (p : X → Bool) (y : X) (ys : List X) → p y ≡ true → filter p (y ∷ ys) ≡ y ∷ filter p ys
  filter-kept p y ys h = cond-true _ _ _ h

  filter-dropped : (p : X → Bool) (y : X) (ys : List X) → p y ≡ false → filter p (y ∷ ys) ≡ filter p ys
  filter-dropped p y ys h = cond-false _ _ _ h

neither : (a b : Bool) → not a && not b ≡ true → (a ≡ false) × (b ≡ false)
neither false false h = (refl, refl)
neither _ _ h = absurd (true≢false (sym h))

both-false : (a b : Bool) → a ≡ false → b ≡ false → not a && not b ≡ true
both-false a b p q = ap (λ c. not c && not b) p ∙ ap not q

not-both : (a : Bool) → (a ≡ true → a ≡ false) → a ≡ false
not-both true h = h refl
not-both false h = refl

module _ {X : Type 0} (lt : X → X → Bool) (order : IsStrictWeakOrder lt) where
  itself : (x : X) → lt x x ≡ false
  itself x = not-both (lt x x) (order.one_way x x)

  ties-itself : (x : X) → ties lt x x ≡ true
  ties-itself x = both-false (lt x x) (lt x x) (itself x) (itself x)

  -- nothing of the list comes before x
  abbrev Above : X → List X → Type 0
  Above x [] = Unit {0}
  Above x (y ∷ ys) = (lt y x ≡ false) × Above x ys

  abbrev Up : List X → Type 0
  Up [] = Unit {0}
  Up (x ∷ xs) = Above x xs × Up xs

  above-of : (x : X) (xs : List X) → ((k : ℕ) → k < length xs → lt (get_or xs k x) x ≡ false) → Above x xs
  above-of x [] h = tt
  above-of x (y ∷ ys) h = (h 0 (omega arith), above-of x ys (λ k p. h (suc k) (omega arith)))

  up-of : (xs : List X) → ((i j : ℕ) (d : X) → i ≤ j → j < length xs → lt (get_or xs j d) (get_or xs i d) ≡ false) → Up xs
  up-of [] h = tt
  up-of (x ∷ xs) h = (
    above-of x xs (λ k p. h 0 (suc k) x (omega arith) (omega arith)),
    up-of xs (λ i j d p q. h (suc i) (suc j) d (omega arith) (omega arith)),
  )

  above-chain : (x y : X) (zs : List X) → lt y x ≡ false → Above y zs → Above x zs
  above-chain x y [] le h = tt
  above-chain x y (z ∷ zs) le h = (order.chain z y x h.0 le, above-chain x y zs le h.1)

  above-inserted : (x y : X) (ys : List X) → lt y x ≡ false → Above x ys → Above x (inserted lt y ys)
  above-inserted x y [] le h = (le, tt)
  above-inserted x y (z ∷ zs) le h = by (lt z y) (above-inserted x y zs le h.1)
    where
      by : (b : Bool) → Above x (inserted lt y zs) → Above x (cond b (z ∷ inserted lt y zs) (y ∷ (z ∷ zs)))
      by true rest = (h.0, rest)
      by false rest = (le, h)

  up-inserted : (x : X) (ys : List X) → Up ys → Up (inserted lt x ys)
  up-inserted x [] h = (tt, tt)
  up-inserted x (y ∷ ys) h = by (lt y x) refl (up-inserted x ys h.1)
    where
      by : (b : Bool) → lt y x ≡ b → Up (inserted lt x ys) → Up (cond b (y ∷ inserted lt x ys) (x ∷ (y ∷ ys)))
      by true first rest = (above-inserted y x ys (order.one_way y x first) h.0, rest)
      by false first rest = ((first, above-chain x y ys first h.0), h)

  up-in_order : (xs : List X) → Up (in_order lt xs)
  up-in_order [] = tt
  up-in_order (x ∷ xs) = up-inserted x (in_order lt xs) (up-in_order xs)

  -- what ties with one element stands as it stood
  filter-inserted : (x y : X) (ys : List X) → filter (ties lt x) (inserted lt y ys) ≡ filter (ties lt x) (y ∷ ys)
  filter-inserted x y [] = refl
  filter-inserted x y (z ∷ zs) =
      search (rules, cases_Bool, cond-false, cond-true, filter-dropped, neither, filter-kept, (filter-inserted x y zs))

  filter-in_order : (x : X) (xs : List X) → filter (ties lt x) (in_order lt xs) ≡ filter (ties lt x) xs
  filter-in_order x [] = refl
  filter-in_order x (y ∷ ys) =
      filter-inserted x y (in_order lt ys) ∙ ap (λ l. cond (ties lt x y) (y ∷ l) l) (filter-in_order x ys)

  -- where something ties with x, x isn't before what the list stands above
  found : (n x : X) (ys : List X) (w : X) (ws : List X) → Above n ys → filter (ties lt x) ys ≡ w ∷ ws → lt x n ≡ false
  found n x [] w ws h e = cc
  found n x (y ∷ ys) w ws h e =
      elim (cases_Bool (ties lt x y)) [
        | inl with ↦ order.chain x y n (neither (lt x y) (lt y x) with).0 h.0
        | inr without ↦ found n x ys w ws h.1 (sym (filter-dropped (ties lt x) y ys without) ∙ e)
      ]

  same-lists : (ys zs : List X) → Up ys → Up zs → ((x : X) → filter (ties lt x) ys ≡ filter (ties lt x) zs) → ys ≡ zs
  same-lists [] [] left right same = refl
  same-lists [] (z ∷ zs) left right same =
      let clash = same z ∙ filter-kept (ties lt z) z zs (ties-itself z) in cc
  same-lists (y ∷ ys) [] left right same =
      let clash = sym (same y) ∙ filter-kept (ties lt y) y ys (ties-itself y) in cc
  same-lists (y ∷ ys) (z ∷ zs) left right same =
      let at_y = filter-kept (ties lt y) y ys (ties-itself y) in
      let at_z = filter-kept (ties lt z) z zs (ties-itself z) in
      let up = found z y (z ∷ zs) y _ (itself z, right.0) (sym (same y) ∙ at_y) in
      let down = found y z (y ∷ ys) z _ (itself y, left.0) (same z ∙ at_z) in
      let heads = sym at_y ∙ same y ∙ filter-kept (ties lt y) z zs (both-false (lt y z) (lt z y) up down) in
      let head : y ≡ z = cc in
      let tails : (x : X) → filter (ties lt x) ys ≡ filter (ties lt x) zs = search rules in
      ap (λ w. w ∷ ys) head ∙ ap (λ l. z ∷ l) (same-lists ys zs left.1 right.1 tails)

  pub in_order-from_sort : (xs ys : List X) → IsSortedBy lt ys → IsStableBy lt xs ys → ys ≡ in_order lt xs
  in_order-from_sort xs ys sorted stable =
      same-lists ys (in_order lt xs) (up-of ys (sorted_far lt order ys sorted)) (up-in_order xs)
      (λ x. stable x ∙ sym (filter-in_order x xs))
