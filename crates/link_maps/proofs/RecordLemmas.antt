-- The uses of each name, cut off one name after another.
use Rattle.std.proofs.Common.{◌≡◌, ℕ, suc, ◌+◌, ◌≤◌, ◌<◌, Bool, true, false, if◌then◌else◌, List, [], ◌∷◌, ◌++◌, take, drop, get_or, length}
use Rattle.std.proofs.{Common.{refl, sym, ap, ◌∙◌, arith, append_assoc, length-drop}, lemmas.List.{drop_more, map-append}}
use Rattle.std.specs.Borrow.{Bor}
use Rattle.link_maps.specs.{Records.{by_name, is_same_name, more_of_name, uses_of_name, with_use}, Uses.Use, Groups.groups_of}

-- one more use before the first name, whether it is of that name or not
cut_step : (u v : Use) (vs : List Use) (b : Bool) →
    by_name (v ∷ vs) ≡ (v ∷ take (more_of_name v vs) vs) ∷ by_name (drop (more_of_name v vs) vs) →
    (if b then (u ∷ v ∷ take (more_of_name v vs) vs) ∷ by_name (drop (more_of_name v vs) vs)
    else (u ∷ []) ∷ (v ∷ take (more_of_name v vs) vs) ∷ by_name (drop (more_of_name v vs) vs))
    ≡ take (suc (if b then suc (more_of_name v vs) else 0)) (u ∷ v ∷ vs) ∷
    by_name (drop (suc (if b then suc (more_of_name v vs) else 0)) (u ∷ v ∷ vs))
cut_step u v vs true h = refl
cut_step u v vs false h = ap (λ (gs : List (List Use)). (u ∷ []) ∷ gs) (sym h)

-- the first name, and those after it
cut_name : (u : Use) (us : List Use) →
    by_name (u ∷ us) ≡ take (uses_of_name (u ∷ us)) (u ∷ us) ∷ by_name (drop (uses_of_name (u ∷ us)) (u ∷ us))
cut_name u [] = refl
cut_name u (v ∷ vs) = ap (with_use u) (cut_name v vs) ∙ cut_step u v vs (is_same_name u v) (cut_name v vs)

cut : (us : List Use) → 0 < length us → by_name us ≡ take (uses_of_name us) us ∷ by_name (drop (uses_of_name us) us)
cut [] some = absurd (omega (arith, some))
cut (u ∷ us) some = cut_name u us

module _ (rest front back : List Use) (n : ℕ) (some : 0 < length rest) (is : n ≡ uses_of_name rest)
    (at : front ≡ take n rest) (last : back ≡ drop n rest) where
  pub first_name : by_name rest ≡ front ∷ by_name back
  first_name =
      cut rest some
      ∙ sym (λ i. ((at ∙ ap (λ (k : ℕ). take k rest) is) i) ∷ by_name ((last ∙ ap (λ (k : ℕ). drop k rest) is) i))

-- the uses of one more name
pub groups_more : (so_far : List (Bor (List Use))) (front : Bor (List Use)) (rest back : List Use) → by_name rest ≡ front.now ∷ by_name back →
    groups_of (so_far ++ front ∷ []) ++ by_name back ≡ groups_of so_far ++ by_name rest
groups_more so_far front rest back cut =
    ap (λ (gs : List (List Use)). gs ++ by_name back) (map-append (λ (g : Bor (List Use)). g.now) so_far (front ∷ []))
    ∙ append_assoc (groups_of so_far) (front.now ∷ []) (by_name back)
    ∙ ap (λ (gs : List (List Use)). groups_of so_far ++ gs) (sym cut)

alone : (us : List Use) → length us ≡ 1 → uses_of_name us ≡ 1
alone [] one = absurd (omega (arith, one))
alone (u ∷ []) one = refl
alone (u ∷ v ∷ vs) one = absurd (omega (arith, one))

-- where the name of the first use ends
module _ (us : List Use) (k : ℕ) (h : k + uses_of_name (drop k us) ≡ uses_of_name us) where
  pub last_of_name : (a b : Use) → k + 1 < length us → a ≡ get_or us k a → b ≡ get_or us (k + 1) b →
      is_same_name a b ≡ false → k + 1 ≡ uses_of_name us
  last_of_name a b inside is_a is_b other =
      let two : drop k us ≡ a ∷ b ∷ drop (k + 1 + 1) us =
      drop_more us k a (omega (arith, inside)) ∙ ap (λ (x : Use). x ∷ drop (k + 1) us) (sym is_a)
      ∙ ap (λ (l : List Use). a ∷ l) (drop_more us (k + 1) b inside ∙ ap (λ (x : Use). x ∷ drop (k + 1 + 1) us) (sym is_b)) in
      let here : uses_of_name (drop k us) ≡ 1 =
      ap uses_of_name two ∙ ap (λ (t : Bool). suc (if t then suc (more_of_name b (drop (k + 1 + 1) us)) else 0)) other in
      ap (λ (n : ℕ). k + n) (sym here) ∙ h

  pub last_use : k < length us → length us ≤ k + 1 → k + 1 ≡ uses_of_name us
  last_use inside end =
      let one : length (drop k us) ≡ 1 = omega (arith, length-drop k us, inside, end) in
      ap (λ (n : ℕ). k + n) (sym (alone (drop k us) one)) ∙ h
