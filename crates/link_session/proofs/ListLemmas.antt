-- What holds of all elements, and the elements of longer and of mapped lists.
use Rattle.std.proofs.Common.{◌≡◌, ℕ, zero, suc, List, [], ◌∷◌, ◌++◌, map, Option, Some, ap}
use Rattle.std.specs.{Prelude.slice_get, Prelude.slice_index_or, List.AllByRecursion}

-- what holds of all elements of two lists holds of the two in a row
pub all_append : {A : Type 0} (P : A → Type 0) (xs ys : List A) → AllByRecursion P xs → AllByRecursion P ys → AllByRecursion P (xs ++ ys)
all_append P [] ys h k = k
all_append P (x ∷ xs) ys h k = (h.0, all_append P xs ys h.1 k)

-- and the other way
pub all_split : {A : Type 0} (P : A → Type 0) (xs ys : List A) → AllByRecursion P (xs ++ ys) → AllByRecursion P xs × AllByRecursion P ys
all_split P [] ys h = (tt, h)
all_split P (x ∷ xs) ys h = let both = all_split P xs ys h.1 in ((h.0, both.0), both.1)

-- what holds of all elements may be weakened
pub all_map : {A : Type 0} (P Q : A → Type 0) → ((x : A) → P x → Q x) → (xs : List A) → AllByRecursion P xs → AllByRecursion Q xs
all_map P Q f [] h = tt
all_map P Q f (x ∷ xs) h = (f x h.0, all_map P Q f xs h.1)

-- an element keeps its place when a list grows
pub get_append : {A : Type 0} (xs ys : List A) (i : ℕ) (x : A) → slice_get xs i ≡ Some x → slice_get (xs ++ ys) i ≡ Some x
get_append [] ys i x e = absurd (cc)
get_append (z ∷ xs) ys zero x e = e
get_append (z ∷ xs) ys (suc i) x e = get_append xs ys i x e

-- the same element by an index with a default
pub index_get : {A : Type 0} (xs : List A) (i : ℕ) (x d : A) → slice_get xs i ≡ Some x → slice_index_or xs i d ≡ x
index_get [] i x d e = absurd (cc)
index_get (z ∷ xs) zero x d e = cc
index_get (z ∷ xs) (suc i) x d e = index_get xs i x d e

-- and in the mapped list
pub get_mapped : {A B : Type 0} (f : A → B) (xs : List A) (i : ℕ) (x : A) → slice_get xs i ≡ Some x → slice_get (map f xs) i ≡ Some (f x)
get_mapped f [] i x e = absurd (cc)
get_mapped {A = A} {B = B} f (y ∷ ys) zero x e = let same : y ≡ x = cc in ap (λ (z : A). let o : Option B = Some (f z) in o) same
get_mapped f (y ∷ ys) (suc i) x e = get_mapped f ys i x e
