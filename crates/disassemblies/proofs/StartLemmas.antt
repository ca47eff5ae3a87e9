-- The steps from a place on: the first of them, and those after it.
use Rattle.std.proofs.Common.{◌≡◌, ℕ, zero, suc, ◌+◌, ◌-◌, ◌<◌, ◌≤◌, Bool, true, false, nat_lt, if◌then◌else◌, List, ◌++◌, refl, sym, ◌∙◌}
use Rattle.std.proofs.{Common.{ap, append_assoc, arith}, lemmas.Bool.Decides.nat_tests}
use Rattle.disassemblies.specs.Starts.{steps_from}

by_test : {A : Type 0} (step : ℕ → ℕ) (count : ℕ) (of : ℕ → ℕ → List A) (end : List A) (place a b : ℕ) (t : Bool) →
    nat_lt place (count) ≡ t → let n : ℕ = step place in
    (t ≡ true → steps_from step count of end a (place + n) ≡ steps_from step count of end b (place + n)) →
    (if t then of place n ++ steps_from step count of end a (place + n) else end)
    ≡ (if t then of place n ++ steps_from step count of end b (place + n) else end)
by_test {A} step count of end place a b true e later =
    let n : ℕ = step place in ap (λ (rest : List A). of place n ++ rest) (later refl)
by_test step count of end place a b false e later = refl

ended : (count : ℕ) (place : ℕ) → count ≤ place → nat_lt place (count) ≡ false
ended count place h = grind (arith, nat_tests)

-- a bound on the number of lines does not matter if it is no less than that of the words
from_enough : {A : Type 0} (step : ℕ → ℕ) (count : ℕ) (some : (p : ℕ) → 1 ≤ step p) (of : ℕ → ℕ → List A) (end : List A) (a b place : ℕ) →
    count ≤ place + a → count ≤ place + b →
    steps_from step count of end a place ≡ steps_from step count of end b place
from_enough step count some of end zero zero place h k = refl
from_enough step count some of end zero (suc b) place h k =
    let n : ℕ = step place in
    sym (ap (λ (t : Bool). if t then of place n ++ steps_from step count of end b (place + n) else end) (ended count place (omega arith)))
from_enough step count some of end (suc a) zero place h k =
    let n : ℕ = step place in
    ap (λ (t : Bool). if t then of place n ++ steps_from step count of end a (place + n) else end) (ended count place (omega arith))
from_enough step count some of end (suc a) (suc b) place h k =
    let n : ℕ = step place in
    let more : 1 ≤ n = some place in
    by_test step count of end place a b (nat_lt place (count)) refl
    (λ t. from_enough step count some of end a b (place + n) (omega arith) (omega arith))

-- the line at a place of the text, and those after it
from_first : {A : Type 0} (step : ℕ → ℕ) (count : ℕ) (some : (p : ℕ) → 1 ≤ step p) (of : ℕ → ℕ → List A) (end : List A) (place n a : ℕ) →
    place < count → n ≡ step place →
    count - place ≡ suc a →
    steps_from step count of end (suc a) place ≡ of place n ++ steps_from step count of end (count - (place + n)) (place + n)
from_first {A} step count some of end place n a h e left =
    let m : ℕ = step place in
    let more : 1 ≤ m = some place in
    let test : nat_lt place (count) ≡ true = grind (arith, nat_tests) in
    ap (λ (t : Bool). if t then of place m ++ steps_from step count of end a (place + m) else end) test
    ∙ ap (λ (rest : List A). of place m ++ rest)
    (from_enough step count some of end a (count - (place + m)) (place + m) (omega arith) (omega arith))
    ∙ ap (λ (k : ℕ). of place k ++ steps_from step count of end (count - (place + k)) (place + k)) (sym e)

-- one line more is appended
pub line_more : {A : Type 0} (step : ℕ → ℕ) (count : ℕ) (some : (p : ℕ) → 1 ≤ step p) (of : ℕ → ℕ → List A)
    (end : List A) (whole old new : List A) (place n : ℕ) → place < count →
    n ≡ step place → new ≡ old ++ of place n →
    old ++ steps_from step count of end (count - place) place ≡ whole →
    new ++ steps_from step count of end (count - (place + n)) (place + n) ≡ whole
line_more {A} step count some of end whole old new place n h e added before =
    let rest : List A = steps_from step count of end (count - (place + n)) (place + n) in
    let a : ℕ = count - place - 1 in
    let left : count - place ≡ suc a = omega arith in
    ap (λ (t : List A). t ++ rest) added
    ∙ append_assoc old (of place n) rest
    ∙ ap (λ (t : List A). old ++ t) (sym (ap (λ (k : ℕ). steps_from step count of end k place) left ∙ from_first step count some of end place n a h e left))
    ∙ before

-- the end is appended
pub end_more : {A : Type 0} (step : ℕ → ℕ) (count : ℕ) (of : ℕ → ℕ → List A) (end : List A) (whole old new : List A) (place : ℕ) →
    place ≡ count →
    new ≡ old ++ end → old ++ steps_from step count of end (count - place) place ≡ whole → new ≡ whole
end_more {A} step count of end whole old new place e added before =
    let none : count - place ≡ 0 = omega arith in
    added ∙ ap (λ (k : ℕ). old ++ steps_from step count of end k place) (sym none) ∙ before
