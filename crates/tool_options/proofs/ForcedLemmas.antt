-- A name put after the names in the slots.
use Rattle.std.proofs.Common.{◌≡◌, ℕ, zero, suc, ◌+◌, ◌<◌, ◌≤◌, true, false, cond, List, [], ◌∷◌, ◌++◌, take, replicate, length, refl, sym}
use Rattle.std.proofs.{Common.{◌∙◌, ap, arith, add-one, length-take, length-append}, lemmas.Bool.lt-ltb, lemmas.List.length-replicate}
use Rattle.std.specs.Prelude.{slice_set, nat_lt}
use Rattle.tool_options.specs.{NameLists.is_among, internal.ForcedSlots.filled, internal.ForcedSlots.IsForced, ForcedNames.AreDifferent}
use Rattle.tool_options.specs.{ForcedNames.takes, ForcedNames.with_name, declared.forced.Forced.TheInside.Inside}
use Rattle.tool_options.proofs.NameListLemmas.{new_names-append}

length-filled : (n : ℕ) (names : List (List ℕ)) → length (filled n names) ≤ n
length-filled n names = omega (arith, length-take n (names ++ replicate n []))

full_length : (names : List (List ℕ)) (n : ℕ) → length (filled n names) ≡ n
full_length names n =
    omega (arith, length-take n (names ++ replicate n []), length-append names (replicate n []), length-replicate {A = List ℕ} n [])

-- the names fit the slots
pub few_names : (n count : ℕ) (slots : List (List ℕ)) → length (take count slots) ≡ count → filled n (take count slots) ≡ slots → count ≤ n
few_names n count slots counted front =
    omega (arith, length-take count slots, length-filled n (take count slots), ap (λ (xs : List (List ℕ)). length xs) front)

pub take_set : (slots : List (List ℕ)) (i : ℕ) (name : List ℕ) → length (take i slots) ≡ i → i < length slots →
    take (i + 1) (slice_set slots i name) ≡ take i slots ++ name ∷ []
take_set [] i name counted h = absurd (omega arith)
take_set (s ∷ slots) zero name counted h = refl
take_set (s ∷ slots) (suc i) name counted h =
    let rest = take_set slots i name (omega arith) (omega arith) in
    rw add-one (ap (λ (xs : List (List ℕ)). s ∷ xs) (rw add-one at rest))

more_empty : (m k : ℕ) → m ≤ k → take m (replicate (suc k) (let none : List ℕ = [] in none)) ≡ take m (replicate k [])
more_empty zero k h = refl
more_empty (suc m) zero h = absurd (omega arith)
more_empty (suc m) (suc k) h = ap (λ (xs : List (List ℕ)). [] ∷ xs) (more_empty m k (omega arith))

-- the slots with one more name
pub fill_next : (n k : ℕ) (names : List (List ℕ)) (name : List ℕ) → length names < n → n ≤ k →
    take n ((names ++ name ∷ []) ++ replicate k []) ≡ slice_set (take n (names ++ replicate k [])) (length names) name
fill_next zero k names name h le = absurd (omega arith)
fill_next (suc n) zero names name h le = absurd (omega arith)
fill_next (suc n) (suc k) [] name h le = ap (λ (xs : List (List ℕ)). name ∷ xs) (more_empty n k (omega arith))
fill_next (suc n) (suc k) (x ∷ names) name h le =
    ap (λ (xs : List (List ℕ)). x ∷ xs) (fill_next n (suc k) names name (omega arith) (omega arith))

-- a name that is not there stands last
pub different_next : (names : List (List ℕ)) (name : List ℕ) → AreDifferent names → is_among names name ≡ false →
    AreDifferent (names ++ name ∷ [])
different_next names name d h = new_names-append [] names (name ∷ []) ∙ (λ i. d i ++ cond (h i) [] (name ∷ []))

abbrev inside : List (List ℕ) → ℕ → Inside
inside slots count = record { slots = slots; count = count }

-- the slots are full, and the name is not in them
pub full_when : (slots : List (List ℕ)) (count : ℕ) (name : List ℕ) → IsForced (inside slots count) → count ≡ 64 →
    is_among (take count slots) name ≡ false →
    (false ≡ takes (take count slots) name) × (take count slots ≡ with_name (take count slots) name)
full_when slots count name v full h =
    let long : nat_lt (length (take count slots)) 64 ≡ false = not_lt (length (take count slots)) (v.counted ∙ full) in
    (rw (h, long) refl, rw (h, long) refl)
  where
    not_lt : (n : ℕ) → n ≡ 64 → nat_lt n 64 ≡ false
    not_lt n e = rw e refl

-- a name that is not there, put into the next slot
pub pushed_when : (slots : List (List ℕ)) (count : ℕ) (name : List ℕ) → IsForced (inside slots count) →
    (count ≡ 64 → ⊥) → is_among (take count slots) name ≡ false →
    IsForced (inside (slice_set slots count name) (count + 1))
    × (take (count + 1) (slice_set slots count name) ≡ with_name (take count slots) name)
pushed_when slots count name v room h =
    let few : count ≤ 64 = few_names 64 count slots v.counted v.from_front in
    let less : count < 64 = omega arith in
    let short : nat_lt (length (take count slots)) 64 ≡ true = rw v.counted (lt-ltb count 64 less) in
    let long : length slots ≡ 64 = ap (λ (xs : List (List ℕ)). length xs) (sym v.from_front) ∙ full_length (take count slots) 64 in
    let next : take (count + 1) (slice_set slots count name) ≡ take count slots ++ name ∷ [] =
    take_set slots count name v.counted (omega arith) in
    let front : filled 64 (take count slots ++ name ∷ []) ≡ slice_set slots count name =
    fill_next 64 64 (take count slots) name (omega (arith, v.counted)) (omega arith)
    ∙ (λ i. slice_set (v.from_front i) (v.counted i) name) in (
      record {
        counted = ap (λ (xs : List (List ℕ)). length xs) next ∙ omega (arith, length-append (take count slots) (name ∷ []), v.counted);
        from_front = ap (λ (xs : List (List ℕ)). filled 64 xs) next ∙ front;
        different = rw next (different_next (take count slots) name v.different h);
      },
      next ∙ (λ i. cond (sym h i) (take count slots) (cond (sym short i) (take count slots ++ name ∷ []) (take count slots))),
    )
