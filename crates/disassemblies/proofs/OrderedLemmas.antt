-- Symbols in the order of their segments and values, and what is found among them.
use Rattle.std.proofs.Common.{◌≡◌, ℕ, zero, suc, ◌+◌, ◌-◌, ◌<◌, ◌≤◌, Bool, true, false, not, ◌&&◌, ◌||◌, cond, eqb, nat_lt, nat_cmp, is_lt}
use Rattle.std.proofs.Common.{◌==◌, List, [], ◌∷◌, length, take, drop, Option, Some, None, IsSome, refl, sym, ◌∙◌, ap, subst, arith, find}
use Rattle.std.specs.Prelude.{get_or, slice_get, ◌%◌}
use Rattle.std.proofs.lemmas.{Bool.{or_from, or_left, or_right, or_parts, false_from_ne_true, both_ways, true≢false}, Bool.Decides.nat_tests, Cmp.{nat_cmp_total, on_total, then_total}}
use Rattle.std.proofs.lemmas.List.{MinMax.ranks_by, Elements.filter_agree, Elements.filter_passes, Quantifiers.position-Some, Kept.IsSortedBy-filter, Sorted.sorted_far}
use Rattle.std.specs.{List.{filter, list_any, position, position_or_len}, List.Sorted.{IsSortedByKey, IsPartitionedBy, IsPartitionPoint, ties}, Cmp.IsStrictWeakOrder}
use Rattle.std.specs.{Ordering.ordering_then, declared.cmp.Ordering.Ordering, declared.cmp.Ordering.TheVariants.{Less, Equal, Greater}}
use Rattle.aout_core.specs.{declared.symbol.Symbol.Symbol, declared.symbol.Segment.Segment}
use Rattle.aout_core.specs.WellFormed.{first_of, is_external, masked_type, segment_number}
use Rattle.aout_core.specs.declared.symbol.Segment.TheVariants as segments
use Rattle.disassemblies.specs.{Naming.{is_at, symbol_at}, internal.Nearest.{IsFree, IsNearest}}
use Rattle.disassemblies.specs.internal.Ordered.{key, key_cmp, is_before, is_between, AreOrdered}

-- the order of the keys is that of the test
abbrev pub below : Symbol → Symbol → Bool
below x y = is_lt (key_cmp (key x) (key y))

below_by : (less equal : Bool) (r : Ordering) →
    is_lt (ordering_then (cond less Less (cond equal Equal Greater)) r) ≡ (less || (equal && is_lt r))
below_by true equal r = refl
below_by false true r = refl
below_by false false r = refl

less_by : (less equal : Bool) → is_lt (cond less Less (cond equal Equal Greater)) ≡ less
less_by true equal = refl
less_by false true = refl
less_by false false = refl

below_is : (x y : Symbol) → below x y ≡ is_before (masked_type y) y.value x
below_is x y =
    below_by (nat_lt (masked_type x) (masked_type y)) (eqb (masked_type x) (masked_type y)) (nat_cmp x.value y.value)
    ∙ ap (λ (b : Bool). nat_lt (masked_type x) (masked_type y) || (eqb (masked_type x) (masked_type y) && b))
    (less_by (nat_lt x.value y.value) (eqb x.value y.value))

pub order : IsStrictWeakOrder below
order = ranks_by (then_total (on_total (λ (p : ℕ × ℕ). p.0) nat_cmp_total) (on_total (λ (p : ℕ × ℕ). p.1) nat_cmp_total)) key

before_too : (n v a b c d : ℕ) → (nat_lt c a || (eqb c a && nat_lt d b)) ≡ false →
    (nat_lt c n || (eqb c n && nat_lt d v)) ≡ true → (nat_lt a n || (eqb a n && nat_lt b v)) ≡ true
before_too n v a b c d up h = grind (arith, nat_tests)

pub partitioned : (n v : ℕ) (xs : List Symbol) → IsSortedByKey key key_cmp xs → IsPartitionedBy (λ s. is_before n v s) xs
partitioned n v xs up i j d le less h =
    let x : Symbol = get_or xs i d in
    let y : Symbol = get_or xs j d in
    before_too n v (masked_type x) x.value (masked_type y) y.value (sym (below_is y x) ∙ sorted_far below order xs up i j d le less) h

-- what is before a point, and what is not
pub front_is : (p : Symbol → Bool) (xs : List Symbol) (i : ℕ) → IsPartitionPoint (λ s. p s ≡ true) (λ s. p s ≡ false) xs i →
    take i xs ≡ filter p xs
front_is p [] zero h = refl
front_is p [] (suc i) h = refl
front_is p (x ∷ xs) zero h =
    let no : p x ≡ false = h.1 0 x (omega arith) (omega arith) in
    front_is p xs zero ((λ k d low high. absurd (omega (arith, low, high))), λ k d low high. h.1 (suc k) d (omega arith) (omega (arith, high)))
    ∙ sym (ap (λ (b : Bool). cond b (x ∷ filter p xs) (filter p xs)) no)
front_is p (x ∷ xs) (suc i) h =
    let yes : p x ≡ true = h.0 0 x (omega arith) (omega arith) in
    ap (λ (ys : List Symbol). x ∷ ys) (front_is p xs i
    ((λ k d low high. h.0 (suc k) d (omega arith) (omega (arith, high))), λ k d low high. h.1 (suc k) d (omega (arith, low)) (omega (arith, high))))
    ∙ sym (ap (λ (b : Bool). cond b (x ∷ filter p xs) (filter p xs)) yes)

pub rest_is : (p : Symbol → Bool) (xs : List Symbol) (i : ℕ) → IsPartitionPoint (λ s. p s ≡ true) (λ s. p s ≡ false) xs i →
    drop i xs ≡ filter (λ s. not (p s)) xs
rest_is p [] zero h = refl
rest_is p [] (suc i) h = refl
rest_is p (x ∷ xs) zero h =
    let no : p x ≡ false = h.1 0 x (omega arith) (omega arith) in
    let others : List Symbol = filter (λ s. not (p s)) xs in
    ap (λ (ys : List Symbol). x ∷ ys) (rest_is p xs zero
    ((λ k d low high. absurd (omega (arith, low, high))), λ k d low high. h.1 (suc k) d (omega arith) (omega (arith, high))))
    ∙ sym (ap (λ (b : Bool). cond (not b) (x ∷ others) others) no)
rest_is p (x ∷ xs) (suc i) h =
    let yes : p x ≡ true = h.0 0 x (omega arith) (omega arith) in
    let others : List Symbol = filter (λ s. not (p s)) xs in
    rest_is p xs i
    ((λ k d low high. h.0 (suc k) d (omega arith) (omega (arith, high))), λ k d low high. h.1 (suc k) d (omega (arith, low)) (omega (arith, high)))
    ∙ sym (ap (λ (b : Bool). cond (not b) (x ∷ others) others) yes)

-- of two elements or more, none passes, or only the first
pub none_before : (p : Symbol → Bool) (xs : List Symbol) (a : Symbol) → IsPartitionedBy p xs → 2 ≤ length xs →
    a ≡ get_or xs 0 a → p a ≡ false → IsPartitionPoint (λ s. p s ≡ true) (λ s. p s ≡ false) xs 0
none_before p [] a part two is fails = absurd (omega (arith, two))
none_before p (x ∷ xs) a part two is fails = (
  (λ k d low high. absurd (omega (arith, high))),
  λ k d low high. false_from_ne_true (p (get_or (x ∷ xs) k d)) (λ t.
      true≢false (sym (part 0 k d low high t) ∙ subst (λ (s : Symbol). p s ≡ false) is fails)),
)

pub one_before : (p : Symbol → Bool) (xs : List Symbol) (a b : Symbol) → IsPartitionedBy p xs → 2 ≤ length xs →
    a ≡ get_or xs 0 a → b ≡ get_or xs 1 b → p a ≡ true → p b ≡ false → IsPartitionPoint (λ s. p s ≡ true) (λ s. p s ≡ false) xs 1
one_before p [] a b part two first second passes fails = absurd (omega (arith, two))
one_before p (x ∷ []) a b part two first second passes fails = absurd (omega (arith, two))
one_before p (x ∷ y ∷ xs) a b part two first second passes fails = (
  (λ k d low high. part k 0 d (omega (arith, high)) (omega arith) (subst (λ (s : Symbol). p s ≡ true) first passes)),
  λ k d low high. false_from_ne_true (p (get_or (x ∷ y ∷ xs) k d)) (λ t.
      true≢false (sym (part 1 k d low high t) ∙ subst (λ (s : Symbol). p s ≡ false) second fails)),
)

pub filter_twice : (p q : Symbol → Bool) (xs : List Symbol) → filter q (filter p xs) ≡ filter (λ s. p s && q s) xs
filter_twice p q [] = refl
filter_twice p q (x ∷ xs) = by_test (p x) (filter_twice p q xs)
  where
    by_test : (t : Bool) → filter q (filter p xs) ≡ filter (λ s. p s && q s) xs →
        filter q (cond t (x ∷ filter p xs) (filter p xs)) ≡ cond (t && q x) (x ∷ filter (λ s. p s && q s) xs) (filter (λ s. p s && q s) xs)
    by_test true h = ap (λ (ys : List Symbol). cond (q x) (x ∷ ys) ys) h
    by_test false h = h

-- the symbols at a value, by a symbol with it
abbrev with_value : Segment → ℕ → Symbol
with_value g v = record { name = []; type_bits = segment_number g; value = v }

masked_number : (g : Segment) → segment_number g % 32 ≡ segment_number g
masked_number segments.Undefined = refl
masked_number segments.Absolute = refl
masked_number segments.TextSeg = refl
masked_number segments.DataSeg = refl
masked_number segments.BssSeg = refl
masked_number segments.Other = refl

ties_by : (n v c d : ℕ) →
    (not (nat_lt n c || (eqb n c && nat_lt v d)) && not (nat_lt c n || (eqb c n && nat_lt d v))) ≡ (eqb c n && eqb d v)
ties_by n v c d = grind (arith, nat_tests)

ties_is : (g : Segment) (v : ℕ) (s : Symbol) → ties below (with_value g v) s ≡ is_at g v s
ties_is g v s =
    let x : Symbol = with_value g v in
    ap (λ (b : Bool). not b && not (below s x)) (below_is x s)
    ∙ ap (λ (b : Bool). not (is_before (masked_type s) s.value x) && not b) (below_is s x)
    ∙ ties_by (masked_type x) v (masked_type s) s.value
    ∙ ap (λ (n : ℕ). eqb (masked_type s) n && eqb s.value v) (masked_number g)

between_by : (n v c d : ℕ) →
    (not (nat_lt c n || (eqb c n && nat_lt d v)) && (nat_lt c n || (eqb c n && nat_lt d (v + 1)))) ≡ (eqb c n && eqb d v)
between_by n v c d = grind (arith, nat_tests)

pub at_is : (symbols ordered : List Symbol) (g : Segment) (v : ℕ) → AreOrdered symbols ordered →
    filter (λ s. is_between g v (v + 1) s) ordered ≡ filter (λ s. is_at g v s) symbols
at_is symbols ordered g v o =
    let x : Symbol = with_value g v in
    filter_agree (λ s. is_between g v (v + 1) s) (ties below x)
    (λ s. between_by (segment_number g) v (masked_type s) s.value ∙ sym (ties_is g v s)) ordered
    ∙ o.stable x
    ∙ filter_agree (ties below x) (λ s. is_at g v s) (λ s. ties_is g v s) symbols

-- the first that is external, or else the first
find_filtered : (q p : Symbol → Bool) (xs : List Symbol) → find q (filter p xs) ≡ find (λ s. q s && p s) xs
find_filtered q p [] = refl
find_filtered q p (x ∷ xs) = by_tests (q x) (p x) refl (find_filtered q p xs)
  where
    by_tests : (t u : Bool) → q x ≡ t → find q (filter p xs) ≡ find (λ s. q s && p s) xs →
        find q (cond u (x ∷ filter p xs) (filter p xs)) ≡ cond (t && u) (Some x) (find (λ s. q s && p s) xs)
    by_tests true true e h = ap (λ (b : Bool). cond b (Some x) (find q (filter p xs))) e
    by_tests false true e h = ap (λ (b : Bool). cond b (Some x) (find q (filter p xs))) e ∙ h
    by_tests true false e h = h
    by_tests false false e h = h

first_filtered : (p : Symbol → Bool) (xs : List Symbol) → slice_get (filter p xs) 0 ≡ find p xs
first_filtered p [] = refl
first_filtered p (x ∷ xs) = by_test (p x) (first_filtered p xs)
  where
    by_test : (t : Bool) → slice_get (filter p xs) 0 ≡ find p xs →
        slice_get (cond t (x ∷ filter p xs) (filter p xs)) 0 ≡ cond t (Some x) (find p xs)
    by_test true h = refl
    by_test false h = h

named : (symbols at : List Symbol) (g : Segment) (v : ℕ) → at ≡ filter (λ s. is_at g v s) symbols →
    first_of (find (λ s. is_external s) at) (slice_get at 0) ≡ symbol_at symbols g v
named symbols at g v is =
    let there : List Symbol = filter (λ s. is_at g v s) symbols in
    ap (λ (ss : List Symbol). first_of (find (λ s. is_external s) ss) (slice_get ss 0)) is
    ∙ ap (λ (o : Option Symbol). first_of o (slice_get there 0)) (find_filtered (λ s. is_external s) (λ s. is_at g v s) symbols)
    ∙ ap (λ (o : Option Symbol). first_of (find (λ s. is_external s && is_at g v s) symbols) o) (first_filtered (λ s. is_at g v s) symbols)

found_at : (q : Symbol → Bool) (xs : List Symbol) (i : ℕ) (d : Symbol) (o : Option Symbol) → i < length xs → q (get_or xs i d) ≡ true →
    ((k : ℕ) → k < i → q (get_or xs k d) ≡ false) → slice_get xs i ≡ first_of (find q xs) o
found_at q [] i d o less here before = absurd (omega (arith, less))
found_at q (x ∷ xs) zero d o less here before = sym (ap (λ (b : Bool). first_of (cond b (Some x) (find q xs)) o) here)
found_at q (x ∷ xs) (suc i) d o less here before =
    found_at q xs i d o (omega (arith, less)) here (λ k fits. before (suc k) (omega (arith, fits)))
    ∙ sym (ap (λ (b : Bool). first_of (cond b (Some x) (find q xs)) o) (before 0 (omega arith)))

pub external_named : (symbols at : List Symbol) (g : Segment) (v i : ℕ) → at ≡ filter (λ s. is_at g v s) symbols →
    position (λ s. is_external s) at ≡ Some i → slice_get at i ≡ symbol_at symbols g v
external_named symbols at g v i is h =
    let d : Symbol = with_value g v in
    let found = position-Some (λ s. is_external s) at i d h in
    found_at (λ s. is_external s) at i d (slice_get at 0) found.0 found.1 found.2 ∙ named symbols at g v is

none_found : (q : Symbol → Bool) (xs : List Symbol) → length xs ≤ position_or_len q xs → find q xs ≡ None
none_found q [] h = refl
none_found q (x ∷ xs) h = by_test (q x) h (λ le. none_found q xs le)
  where
    by_test : (t : Bool) → length (x ∷ xs) ≤ cond (not t) (1 + position_or_len q xs) 0 → (length xs ≤ position_or_len q xs → find q xs ≡ None) →
        cond t (Some x) (find q xs) ≡ None
    by_test true le rest = absurd (omega (arith, le))
    by_test false le rest = rest (omega (arith, le))

no_position : (t : Bool) (i : ℕ) → cond t (Some i) None ≡ None → t ≡ false
no_position true i h = absurd cc
no_position false i h = refl

pub first_named : (symbols at : List Symbol) (g : Segment) (v : ℕ) → at ≡ filter (λ s. is_at g v s) symbols →
    position (λ s. is_external s) at ≡ None → slice_get at 0 ≡ symbol_at symbols g v
first_named symbols at g v is h =
    let place : ℕ = position_or_len (λ s. is_external s) at in
    let far : nat_lt place (length at) ≡ false = no_position (nat_lt place (length at)) place h in
    sym (ap (λ (o : Option Symbol). first_of o (slice_get at 0)) (none_found (λ s. is_external s) at (grind (arith, nat_tests))))
    ∙ named symbols at g v is

-- whether a symbol is found at a value
none_at : (g : Segment) (w : ℕ) (xs : List Symbol) → list_any (λ s. is_at g w s) xs ≡ false → symbol_at xs g w ≡ None
none_at g w [] h = refl
none_at g w (x ∷ xs) h =
    let parts = or_parts (is_at g w x) (list_any (λ s. is_at g w s) xs) h in
    by_tests (is_at g w x) (is_external x) parts.0 ∙ none_at g w xs parts.1
  where
    by_tests : (t u : Bool) → t ≡ false →
        first_of (cond (u && t) (Some x) (find (λ s. is_external s && is_at g w s) xs)) (cond t (Some x) (find (λ s. is_at g w s) xs))
        ≡ symbol_at xs g w
    by_tests true u e = absurd cc
    by_tests false true e = refl
    by_tests false false e = refl

some_first : (o : Option Symbol) (x : Symbol) → IsSome (first_of o (Some x))
some_first None x = refl
some_first (Some y) x = refl

some_at : (g : Segment) (w : ℕ) (xs : List Symbol) → list_any (λ s. is_at g w s) xs ≡ true → IsSome (symbol_at xs g w)
some_at g w [] h = absurd cc
some_at g w (x ∷ xs) h = by_tests (is_at g w x) (is_external x) h (λ e. some_at g w xs e)
  where
    by_tests : (t u : Bool) → (t || list_any (λ s. is_at g w s) xs) ≡ true →
        (list_any (λ s. is_at g w s) xs ≡ true → IsSome (symbol_at xs g w)) →
        IsSome (first_of (cond (u && t) (Some x) (find (λ s. is_external s && is_at g w s) xs)) (cond t (Some x) (find (λ s. is_at g w s) xs)))
    by_tests true true e rest = refl
    by_tests true false e rest = some_first (find (λ s. is_external s && is_at g w s) xs) x
    by_tests false true e rest = rest e
    by_tests false false e rest = rest e

any_kept : (p q : Symbol → Bool) → ((s : Symbol) → p s ≡ true → q s ≡ true) → (xs : List Symbol) → list_any p (filter q xs) ≡ list_any p xs
any_kept p q passes [] = refl
any_kept p q passes (x ∷ xs) = by_test (q x) refl (any_kept p q passes xs)
  where
    by_test : (t : Bool) → q x ≡ t → list_any p (filter q xs) ≡ list_any p xs →
        list_any p (cond t (x ∷ filter q xs) (filter q xs)) ≡ (p x || list_any p xs)
    by_test true e h = ap (λ (b : Bool). p x || b) h
    by_test false e h =
        let no : p x ≡ false = false_from_ne_true (p x) (λ a. both_ways (q x) e (passes x a)) in
        h ∙ sym (ap (λ (b : Bool). b || list_any p xs) no)

none_pass : (p : Symbol → Bool) (xs : List Symbol) (d : Symbol) → ((k : ℕ) → k < length xs → p (get_or xs k d) ≡ false) → list_any p xs ≡ false
none_pass p [] d h = refl
none_pass p (x ∷ xs) d h =
    or_from (p x) (list_any p xs) (h 0 (omega arith)) (none_pass p xs d (λ k less. h (suc k) (omega (arith, less))))

one_passes : (p : Symbol → Bool) (xs : List Symbol) (k : ℕ) (d : Symbol) → k < length xs → p (get_or xs k d) ≡ true → list_any p xs ≡ true
one_passes p [] k d less h = absurd (omega (arith, less))
one_passes p (x ∷ xs) zero d less h = or_left (p x) (list_any p xs) h
one_passes p (x ∷ xs) (suc k) d less h = or_right (p x) (list_any p xs) (one_passes p xs k d (omega (arith, less)) h)

read : (xs : List Symbol) (k : ℕ) (s : Symbol) → slice_get xs k ≡ Some s → (k < length xs) × (get_or xs k s ≡ s)
read [] k s h = absurd cc
read (x ∷ xs) zero s h = (omega arith, cc)
read (x ∷ xs) (suc k) s h = let rest = read xs k s h in (omega (arith, rest.0), rest.1)

-- the nearest value, by the symbols from some bytes before an address up to it
abbrev pub near_ones : List Symbol → Segment → ℕ → ℕ → List Symbol
near_ones ordered g a within = filter (λ s. is_between g (a + 1 - within) (a + 1) s) ordered

is_near : (n low high w c d : ℕ) → low ≤ w → w < high → (eqb c n && eqb d w) ≡ true →
    (not (nat_lt c n || (eqb c n && nat_lt d low)) && (nat_lt c n || (eqb c n && nat_lt d high))) ≡ true
is_near n low high w c d from to h = grind (arith, nat_tests)

any_near : (symbols ordered : List Symbol) (g : Segment) (a within w : ℕ) → AreOrdered symbols ordered → w ≤ a → a < w + within →
    list_any (λ s. is_at g w s) symbols ≡ list_any (λ s. is_at g w s) (near_ones ordered g a within)
any_near symbols ordered g a within w o le near =
    sym (o.same (λ s. is_at g w s))
    ∙ sym (any_kept (λ s. is_at g w s) (λ s. is_between g (a + 1 - within) (a + 1) s)
    (λ s h. is_near (segment_number g) (a + 1 - within) (a + 1) w (masked_type s) s.value (omega (arith, near)) (omega (arith, le)) h) ordered)

pub nearest_none : (symbols ordered : List Symbol) (g : Segment) (a within : ℕ) → AreOrdered symbols ordered →
    near_ones ordered g a within ≡ [] → IsNearest symbols g a within None
nearest_none symbols ordered g a within o none w le near =
    none_at g w symbols (any_near symbols ordered g a within w o le near ∙ ap (list_any (λ s. is_at g w s)) none)

near_parts : (n low high c d : ℕ) →
    (not (nat_lt c n || (eqb c n && nat_lt d low)) && (nat_lt c n || (eqb c n && nat_lt d high))) ≡ true → (c ≡ n) × (low ≤ d) × (d < high)
near_parts n low high c d h = (grind (arith, nat_tests), grind (arith, nat_tests), grind (arith, nat_tests))

is_itself : (n c d : ℕ) → c ≡ n → (eqb c n && eqb d d) ≡ true
is_itself n c d e = grind (arith, nat_tests)

is_later : (n w m v c d : ℕ) → (nat_lt m c || (eqb m c && nat_lt v d)) ≡ false → m ≡ n → v < w → (eqb c n && eqb d w) ≡ false
is_later n w m v c d up e more = grind (arith, nat_tests)

no_last : (x : Symbol) (xs : List Symbol) → slice_get (x ∷ xs) (length xs) ≡ None → ⊥
no_last x [] h = absurd cc
no_last x (y ∷ ys) h = no_last y ys h

pub empty_by_last : (xs : List Symbol) → slice_get xs (length xs - 1) ≡ None → xs ≡ []
empty_by_last [] h = refl
empty_by_last (x ∷ xs) h =
    let last : length xs ≡ length (x ∷ xs) - 1 = omega arith in
    absurd (no_last x xs (ap (slice_get (x ∷ xs)) last ∙ h))

pub nearest_some : (symbols ordered : List Symbol) (g : Segment) (a within : ℕ) (s : Symbol) → AreOrdered symbols ordered →
    slice_get (near_ones ordered g a within) (length (near_ones ordered g a within) - 1) ≡ Some s → IsNearest symbols g a within (Some s.value)
nearest_some symbols ordered g a within s o last =
    let near : List Symbol = near_ones ordered g a within in
    let k : ℕ = length near - 1 in
    let at = read near k s last in
    let passes : is_between g (a + 1 - within) (a + 1) s ≡ true =
    sym (ap (is_between g (a + 1 - within) (a + 1)) at.1)
    ∙ filter_passes (λ x. is_between g (a + 1 - within) (a + 1) x) ordered k s at.0 in
    let parts = near_parts (segment_number g) (a + 1 - within) (a + 1) (masked_type s) s.value passes in
    let up : IsSortedByKey key key_cmp near =
    IsSortedBy-filter below order (λ x. is_between g (a + 1 - within) (a + 1) x) ordered o.sorted in
    let le : s.value ≤ a = omega (arith, parts.2) in
    let close : a < s.value + within = omega (arith, parts.1) in
    let here : is_at g s.value (get_or near k s) ≡ true =
    ap (is_at g s.value) at.1 ∙ is_itself (segment_number g) (masked_type s) s.value parts.0 in (
      le,
      close,
      some_at g s.value symbols
          (any_near symbols ordered g a within s.value o le close ∙ one_passes (λ x. is_at g s.value x) near k s at.0 here),
      λ w above fits.
          let none : list_any (λ x. is_at g w x) near ≡ false =
          none_pass (λ x. is_at g w x) near s (λ j less.
          let y : Symbol = get_or near j s in
          let after : is_before (masked_type y) y.value s ≡ false =
          sym (below_is s y) ∙ ap (λ (x : Symbol). below x y) (sym at.1)
          ∙ sorted_far below order near up j k s (omega (arith, less)) at.0 in
          is_later (segment_number g) w (masked_type s) s.value (masked_type y) y.value after parts.0 above) in
          none_at g w symbols (any_near symbols ordered g a within w o fits (omega (arith, above, close)) ∙ none),
    )
