-- Elements of lists by their index.
use Rattle.std.proofs.Common.{◌+◌, ◌++◌, ◌⊎◌, inl, inr, ◌≡◌, ℕ, zero, suc, Bool, true, false, cond, List, [], ◌∷◌, map, length, Option}
use Rattle.std.proofs.Common.{Some, refl, ap, subst, arith, rules}
use Rattle.std.specs.{Prelude.filter, Prelude.zip, Prelude.slice_get, List.AllByRecursion}

-- two lists side by side: the pair at a place
pub zip_get : {A B : Type 0} (xs : List A) (ys : List B) (i : ℕ) (x : A) (y : B) → slice_get xs i ≡ Some x →
    slice_get ys i ≡ Some y → slice_get (zip xs ys) i ≡ Some (x, y)
zip_get [] ys i x y e f = absurd (cc)
zip_get (a ∷ xs) [] i x y e f = absurd (cc)
zip_get {A = A} {B = B} (a ∷ xs) (b ∷ ys) zero x y e f = cc
zip_get (a ∷ xs) (b ∷ ys) (suc i) x y e f = zip_get xs ys i x y e f

-- their length
pub zip_length : {A B : Type 0} (xs : List A) (ys : List B) → length xs ≡ length ys → length (zip xs ys) ≡ length xs
zip_length [] ys e = refl
zip_length (x ∷ xs) [] e = absurd (omega arith)
zip_length (x ∷ xs) (y ∷ ys) e = let rest : length (zip xs ys) ≡ length xs = zip_length xs ys (omega arith) in omega arith

-- what holds of all holds of each
pub all_get : {A : Type 0} (P : A → Type 0) (xs : List A) (i : ℕ) (x : A) → AllByRecursion P xs → slice_get xs i ≡ Some x → P x
all_get P [] i x h e = absurd (cc)
all_get P (a ∷ xs) zero x h e = let same : a ≡ x = cc in subst P same h.0
all_get P (a ∷ xs) (suc i) x h e = all_get P xs i x h.1 e

-- what holds of all that is picked and mapped holds at each place that is picked
pub all_filtered : {A B : Type 0} (P : B → Type 0) (f : A → B) (q : A → Bool) (xs : List A) (i : ℕ) (x : A) →
    AllByRecursion P (map f (filter q xs)) → slice_get xs i ≡ Some x → q x ≡ true → P (f x)
all_filtered P f q [] i x h e t = absurd (cc)
all_filtered {A = A} P f q (a ∷ xs) zero x h e t = search rules
all_filtered P f q (a ∷ xs) (suc i) x h e t = all_filtered P f q xs i x (by_test (q a) h) e t
  where
    by_test : (b : Bool) → AllByRecursion P (map f (cond b (a ∷ filter q xs) (filter q xs))) → AllByRecursion P (map f (filter q xs))
    by_test true h = h.1
    by_test false h = h

-- lists with the same elements are one
pub same_elements : {A : Type 0} (xs ys : List A) → length xs ≡ length ys →
    ((i : ℕ) (y : A) → slice_get ys i ≡ Some y → slice_get xs i ≡ Some y) → xs ≡ ys
same_elements [] [] e h = refl
same_elements [] (y ∷ ys) e h = absurd (omega arith)
same_elements (x ∷ xs) [] e h = absurd (omega arith)
same_elements (x ∷ xs) (y ∷ ys) e h =
    let found : Some x ≡ Some y = h 0 y refl in
    let first : x ≡ y = cc in
    let rest : xs ≡ ys = same_elements xs ys (omega arith) (λ i z f. h (suc i) z f) in
    λ i. first i ∷ rest i

-- an element of two lists is one of the first or of the second
pub get_either : {A : Type 0} (xs ys : List A) (i : ℕ) (y : A) → slice_get (xs ++ ys) i ≡ Some y →
    (slice_get xs i ≡ Some y) ⊎ ((j : ℕ) × (i ≡ length xs + j) × (slice_get ys j ≡ Some y))
get_either [] ys i y e = inr (i, omega arith, e)
get_either (x ∷ xs) ys zero y e = inl e
get_either (x ∷ xs) ys (suc i) y e = by_rest (get_either xs ys i y e)
  where
    by_rest : (slice_get xs i ≡ Some y) ⊎ ((j : ℕ) × (i ≡ length xs + j) × (slice_get ys j ≡ Some y)) →
        (slice_get xs i ≡ Some y) ⊎ ((j : ℕ) × (suc i ≡ length (x ∷ xs) + j) × (slice_get ys j ≡ Some y))
    by_rest (inl h) = inl h
    by_rest (inr h) = let here = h.1 in inr (h.0, omega arith, h.2)

-- an element of a mapped list is made of one
pub get_back : {A B : Type 0} (f : A → B) (xs : List A) (i : ℕ) (y : B) → slice_get (map f xs) i ≡ Some y →
    (x : A) × (slice_get xs i ≡ Some x) × (y ≡ f x)
get_back f [] i y e = absurd (cc)
get_back f (x ∷ xs) zero y e = (x, refl, cc)
get_back f (x ∷ xs) (suc i) y e = get_back f xs i y e

-- the parts of the pair at a place
pub zip_back : {A B : Type 0} (xs : List A) (ys : List B) (i : ℕ) (z : A × B) → slice_get (zip xs ys) i ≡ Some z →
    (slice_get xs i ≡ Some z.0) × (slice_get ys i ≡ Some z.1)
zip_back [] ys i z e = absurd (cc)
zip_back (x ∷ xs) [] i z e = absurd (cc)
zip_back {A = A} {B = B} (x ∷ xs) (y ∷ ys) zero z e =
    let same : (x, y) ≡ z = cc in
    (ap (λ (p : A × B). let o : Option A = Some p.0 in o) same, ap (λ (p : A × B). let o : Option B = Some p.1 in o) same)
zip_back (x ∷ xs) (y ∷ ys) (suc i) z e = zip_back xs ys i z e
