-- Octal digits that are written from the last to the first.
use Rattle.std.proofs.Common.{◌≡◌, ℕ, zero, suc, ◌+◌, ◌-◌, ◌*◌, ◌/◌, ◌%◌, ◌^◌, ◌<◌, ◌≤◌, ◌==◌, false, true, if◌then◌else◌, List, [], ◌∷◌}
use Rattle.std.proofs.{Common.{sym, ap, ◌∙◌, subst, arith, nat_lt}, lemmas.Bool.{cond-true, cond-false}, lemmas.Bool.Decides.nat_tests}
use Rattle.std.proofs.{lemmas.Nat.div_below, Math.Nat.{pow-zero, pow-suc}, Math.Numerals.add-one}
use Rattle.std.specs.Fmt.{digits, digits_onto, digit_glyph}
use Rattle.texts.specs.Numbers.{digit, octal}

-- the digits of what is left, in front of those that are done; the place says how many more fit
abbrev pub digits_left : ℕ → ℕ → List ℕ → List ℕ
digits_left place rest done = if rest / 8 == 0 then done else digits_onto (42 + place) 8 false (rest / 8) done

pub glyph : (n : ℕ) → digit_glyph false (n % 8) ≡ digit n
glyph n =
    let test : nat_lt (n % 8) 10 ≡ true = grind (arith, nat_tests) in
    cond-true _ _ _ test

not-zero : (n : ℕ) → 1 ≤ n → (n == 0) ≡ false
not-zero n h = grind (arith, nat_tests)

pub first-digit : (n : ℕ) → octal n ≡ digits_left 21 n (digit n ∷ [])
unfolding digits
first-digit n = ap (λ g. if n / 8 == 0 then g ∷ [] else digits_onto 63 8 false (n / 8) (g ∷ [])) (glyph n)

pub next-digit : (place rest : ℕ) (done : List ℕ) → 1 ≤ place → 8 ≤ rest →
    digits_left place rest done ≡ digits_left (place - 1) (rest / 8) (digit (rest / 8) ∷ done)
next-digit place rest done room more =
    let test = not-zero (rest / 8) (omega arith) in
    let fuel : 42 + place ≡ suc (42 + (place - 1)) = omega arith in
    cond-false _ _ _ test ∙ ap (λ k. digits_onto k 8 false (rest / 8) done) fuel
    ∙ ap (λ g. if rest / 8 / 8 == 0 then g ∷ done else digits_onto (42 + (place - 1)) 8 false (rest / 8 / 8) (g ∷ done)) (glyph (rest / 8))

power-more : (place : ℕ) → 8 ^ (place + 1) ≡ 8 ^ place * 8
power-more place = ap (λ k. 8 ^ k) (add-one place) ∙ pow-suc 8 place

pub place-left : (place rest : ℕ) → 8 ≤ rest → rest < 8 ^ (place + 1) → 1 ≤ place
place-left zero rest more short = absurd (omega (arith, power-more 0 ∙ ap (λ b. b * 8) (pow-zero 8)))
place-left (suc place) rest more short = omega arith

pub fewer-digits : (place rest : ℕ) → 1 ≤ place → rest < 8 ^ (place + 1) → rest / 8 < 8 ^ (place - 1 + 1)
fewer-digits place rest room short =
    let same : place - 1 + 1 ≡ place = omega arith in
    subst (λ k. rest / 8 < 8 ^ k) (sym same) (div_below rest 8 (8 ^ place) (omega arith) (subst (λ b. rest < b) (power-more place) short))
