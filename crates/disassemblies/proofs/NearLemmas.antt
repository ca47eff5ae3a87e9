-- The nearest label is the first that is found from the address back.
use Rattle.std.proofs.Common.{◌≡◌, ℕ, zero, suc, ◌+◌, ◌-◌, ◌<◌, ◌≤◌, Bool, true, false, nat_le, if◌then◌else◌, List, Option, Some}
use Rattle.std.proofs.{Common.{None, IsSome, refl, ◌∙◌, ap, arith}, lemmas.Bool.Decides.nat_tests}
use Rattle.aout_core.specs.{WellFormed.first_of, declared.symbol.Symbol.Symbol, declared.symbol.Segment.Segment}
use Rattle.instructions.specs.declared.reference.Reference.{Reference}
use Rattle.disassemblies.specs.{Naming.symbol_at, Near.{bytes_beyond, label_before, nearest_within}}
use Rattle.disassemblies.specs.internal.Nearest.{IsFree, IsNearest}

-- no label is so many bytes before an address
no_label : (symbols : List Symbol) (segment : Segment) (address n : ℕ) → (n ≤ address → IsFree symbols segment (address - n)) →
    label_before symbols segment address n ≡ None
no_label symbols segment address n h = by_test (nat_le n address) refl
  where
    by_test : (t : Bool) → nat_le n address ≡ t →
        (if t then bytes_beyond (symbol_at symbols segment (address - n)) n else None) ≡ None
    by_test true e =
        ap (λ (x : Option Symbol). bytes_beyond x n) (h (grind (arith, nat_tests)))
    by_test false e = refl

none_within : (symbols : List Symbol) (segment : Segment) (address n : ℕ) →
    ((k : ℕ) → k < n → label_before symbols segment address k ≡ None) → nearest_within symbols segment address n ≡ None
none_within symbols segment address zero h = refl
none_within symbols segment address (suc n) h =
    ap (λ (x : Option Reference). first_of x (label_before symbols segment address n))
    (none_within symbols segment address n (λ k less. h k (omega (arith, less))))
    ∙ h n (omega arith)

-- one that has been found is found still
still_within : (symbols : List Symbol) (segment : Segment) (address n more : ℕ) (x : Reference) →
    nearest_within symbols segment address n ≡ Some x → nearest_within symbols segment address (more + n) ≡ Some x
still_within symbols segment address n zero x h =
    let whole : 0 + n ≡ n = omega arith in
    ap (nearest_within symbols segment address) whole ∙ h
still_within symbols segment address n (suc more) x h =
    let whole : suc more + n ≡ suc (more + n) = omega arith in
    ap (nearest_within symbols segment address) whole
    ∙ ap (λ (y : Option Reference). first_of y (label_before symbols segment address (more + n)))
    (still_within symbols segment address n more x h)

-- no label fewer bytes before, and one so many
found_within : (symbols : List Symbol) (segment : Segment) (address n d : ℕ) (o : Option Reference) →
    ((k : ℕ) → k < d → label_before symbols segment address k ≡ None) → label_before symbols segment address d ≡ o → IsSome o →
    d < n → nearest_within symbols segment address n ≡ o
found_within symbols segment address n d None none is some h = absurd cc
found_within symbols segment address n d (Some x) none is some h =
    let now : nearest_within symbols segment address (suc d) ≡ Some x =
    ap (λ (y : Option Reference). first_of y (label_before symbols segment address d)) (none_within symbols segment address d none) ∙ is in
    let length : n ≡ n - suc d + suc d = omega (arith, h) in
    ap (nearest_within symbols segment address) length ∙ still_within symbols segment address (suc d) (n - suc d) x now

-- a symbol that has a value is found
is_some_beyond : (o : Option Symbol) (n : ℕ) → IsSome o → IsSome (bytes_beyond o n)
is_some_beyond (Some s) n h = refl
is_some_beyond None n h = h

-- no label is near
pub none_near : (symbols : List Symbol) (segment : Segment) (address n : ℕ) → IsNearest symbols segment address n None →
    nearest_within symbols segment address n ≡ None
none_near symbols segment address n h =
    none_within symbols segment address n (λ k less.
    no_label symbols segment address k (λ le. h (address - k) (omega arith) (omega (arith, le, less))))

-- the label at the nearest value
pub near_is : (symbols : List Symbol) (segment : Segment) (address n v : ℕ) → IsNearest symbols segment address n (Some v) →
    nearest_within symbols segment address n ≡ bytes_beyond (symbol_at symbols segment v) (address - v)
near_is symbols segment address n v h =
    let d : ℕ = address - v in
    let back : address - d ≡ v = omega (arith, h.0) in
    let le : nat_le d address ≡ true = grind (arith, nat_tests) in
    let here : label_before symbols segment address d ≡ bytes_beyond (symbol_at symbols segment v) d =
    ap (λ (t : Bool). if t then bytes_beyond (symbol_at symbols segment (address - d)) d else None) le
    ∙ ap (λ (a : ℕ). bytes_beyond (symbol_at symbols segment a) d) back in
    found_within symbols segment address n d (bytes_beyond (symbol_at symbols segment v) d) (λ k less.
    no_label symbols segment address k (λ fits. h.3 (address - k) (omega (arith, h.0, less, fits)) (omega arith))) here
    (is_some_beyond (symbol_at symbols segment v) d h.2)
    (omega (arith, h.0, h.1))
