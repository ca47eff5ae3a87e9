-- Names are ordered as the numbers of their eight bytes, the first byte the highest.
use Rattle.std.proofs.Common.{◌≡◌, ◌+◌, ◌*◌, ◌-◌, ◌<◌, ◌≤◌, ℕ, zero, suc, Bool, true, false, ◌==◌, if◌then◌else◌, List, [], ◌∷◌, ◌++◌}
use Rattle.std.proofs.Common.{length, drop, replicate, get_or, refl, sym, ap, subst, ◌∙◌, arith, w64}
use Rattle.std.proofs.{Math.Nat.mul-le-mul_right, lemmas.Bool.eqb-false, lemmas.Cmp.ranked}
use Rattle.std.specs.{Ordering.{MatchOrdering, nat_cmp, ordering_then, is_eq}, declared.cmp.Ordering.TheVariants.{Less, Equal, Greater}}
use Rattle.std.specs.{Cmp.Lexicographic.{pointwise, slice_cmp, texts_ties}, Prelude.nat_eq, Int.from_be_bytes}
use Rattle.std.specs.{declared.cmp.Ordering.Ordering, Cmp.unsigned_ties}
use Rattle.aout_core.specs.Names.{before_nul, padded}
use Rattle.aout_core.proofs.NameLemmas.{padded-short, before_nul-twice, length-before_nul-le}

same_rank : (a b : ℕ) (o r : Ordering) → MatchOrdering o (a < b) (a ≡ b) (b < a) → MatchOrdering r (a < b) (a ≡ b) (b < a) → o ≡ r
same_rank a b Less Less h k = refl
same_rank a b Less Equal h k = absurd (omega arith)
same_rank a b Less Greater h k = absurd (omega arith)
same_rank a b Equal Less h k = absurd (omega arith)
same_rank a b Equal Equal h k = refl
same_rank a b Equal Greater h k = absurd (omega arith)
same_rank a b Greater Less h k = absurd (omega arith)
same_rank a b Greater Equal h k = absurd (omega arith)
same_rank a b Greater Greater h k = refl

-- the high digits decide, and else what is below them
digits_cmp : (p x y r s : ℕ) → r < p → s < p → nat_cmp (x * p + r) (y * p + s) ≡ ordering_then (nat_cmp x y) (nat_cmp r s)
digits_cmp p x y r s r_fits s_fits =
    same_rank (x * p + r) (y * p + s) (nat_cmp (x * p + r) (y * p + s)) (ordering_then (nat_cmp x y) (nat_cmp r s))
    (ranked (x * p + r) (y * p + s) (nat_cmp (x * p + r) (y * p + s)) refl)
    (by (nat_cmp x y) (nat_cmp r s) (ranked x y (nat_cmp x y) refl) (ranked r s (nat_cmp r s) refl))
  where
    below : (v w : ℕ) → v < w → v * p + p ≤ w * p
    below v w lt = let up : suc v * p ≤ w * p = mul-le-mul_right p lt in let one : suc v * p ≡ v * p + p = one_more v p in omega arith
      where
        one_more : (v p : ℕ) → suc v * p ≡ v * p + p
        one_more v p = omega arith

    by : (o q : Ordering) → MatchOrdering o (x < y) (x ≡ y) (y < x) → MatchOrdering q (r < s) (r ≡ s) (s < r)
        → MatchOrdering (ordering_then o q) (x * p + r < y * p + s) (x * p + r ≡ y * p + s) (y * p + s < x * p + r)
    by Less q h k = omega (arith, below x y h)
    by Equal Less h k = omega (arith, ap (λ z. z * p) h)
    by Equal Equal h k = λ i. h i * p + k i
    by Equal Greater h k = omega (arith, ap (λ z. z * p) h)
    by Greater q h k = omega (arith, below y x h)

-- what a byte counts that has so many after it
abbrev worth : ℕ → ℕ
worth zero = 1
worth (suc n) = 256 * worth n

-- the bytes as digits, the first one the highest
abbrev number : List ℕ → ℕ
number [] = 0
number (b ∷ bs) = b * worth (length bs) + number bs

number-lt : (bs : List ℕ) → ((i : ℕ) → get_or bs i 0 < 256) → number bs < worth (length bs)
number-lt [] small = let none : 0 < 1 = omega arith in none
number-lt (b ∷ bs) small =
    let rest = number-lt bs (λ i. small (suc i)) in
    let most : b * worth (length bs) ≤ 255 * worth (length bs) = mul-le-mul_right (worth (length bs)) (fits (small 0)) in
    let whole : b * worth (length bs) + number bs < 256 * worth (length bs) = omega arith in whole
  where
    fits : b < 256 → b ≤ 255
    fits h = omega arith

number-cmp : (xs ys : List ℕ) → length xs ≡ length ys → ((i : ℕ) → get_or xs i 0 < 256) →
    ((i : ℕ) → get_or ys i 0 < 256) → nat_cmp (number xs) (number ys) ≡ slice_cmp nat_cmp xs ys
number-cmp [] [] long small low = refl
number-cmp [] (y ∷ ys) long small low = absurd (omega arith)
number-cmp (x ∷ xs) [] long small low = absurd (omega arith)
number-cmp (x ∷ xs) (y ∷ ys) long small low =
    let rest : length xs ≡ length ys = omega arith in
    let high : y * worth (length ys) + number ys ≡ y * worth (length xs) + number ys = ap (λ k. y * worth k + number ys) (sym rest) in
    let r_fits = number-lt xs (λ i. small (suc i)) in
    let s_fits : number ys < worth (length xs) = subst (λ k. number ys < worth k) (sym rest) (number-lt ys (λ i. low (suc i))) in
    ap (nat_cmp (x * worth (length xs) + number xs)) high
    ∙ digits_cmp (worth (length xs)) x y (number xs) (number ys) r_fits s_fits
    ∙ ap (ordering_then (nat_cmp x y)) (number-cmp xs ys rest (λ i. small (suc i)) (λ i. low (suc i)))

number_8 : (bs : List ℕ) → length bs ≡ 8 → from_be_bytes w64 bs ≡ number bs
number_8 (a ∷ b ∷ c ∷ d ∷ e ∷ f ∷ g ∷ h ∷ []) long =
    let flat : from_be_bytes w64 (a ∷ b ∷ c ∷ d ∷ e ∷ f ∷ g ∷ h ∷ [])
    ≡ a * 72057594037927936 + b * 281474976710656 + c * 1099511627776 + d * 4294967296 + e * 16777216 + f * 65536 + g * 256 + h = refl in
    let nested : number (a ∷ b ∷ c ∷ d ∷ e ∷ f ∷ g ∷ h ∷ [])
    ≡ a * 72057594037927936 + (b * 281474976710656
    + (c * 1099511627776 + (d * 4294967296 + (e * 16777216 + (f * 65536 + (g * 256 + (h * 1 + 0))))))) = refl in
    flat ∙ same (a * 72057594037927936) (b * 281474976710656) (c * 1099511627776) (d * 4294967296) (e * 16777216)
    (f * 65536) (g * 256) h ∙ sym nested
  where
    same : (a b c d e f g h : ℕ) → a + b + c + d + e + f + g + h ≡ a + (b + (c + (d + (e + (f + (g + (h * 1 + 0)))))))
    same a b c d e f g h = omega arith
number_8 _ long = absurd (omega arith)

is_less : (a b : ℕ) → a < b → nat_cmp a b ≡ Less
is_less a b lt = same_rank a b (nat_cmp a b) Less (ranked a b (nat_cmp a b) refl) lt

is_greater : (a b : ℕ) → b < a → nat_cmp a b ≡ Greater
is_greater a b lt = same_rank a b (nat_cmp a b) Greater (ranked a b (nat_cmp a b) refl) lt

-- what has no NUL
no_nul : (b : ℕ) (xs : List ℕ) → before_nul (b ∷ xs) ≡ b ∷ xs → (0 < b) × (before_nul xs ≡ xs)
no_nul b xs = by (b == 0) refl
  where
    by : (c : Bool) → (b == 0) ≡ c → (if c then [] else b ∷ before_nul xs) ≡ b ∷ xs → (0 < b) × (before_nul xs ≡ xs)
    by true e h = absurd (omega (arith, ap length h))
    by false e h = let other = eqb-false b 0 e in (omega (arith, other), ap (drop 1) h)

-- NULs at the end change no order of texts without NULs
filled_cmp : (xs ys : List ℕ) (m n : ℕ) → before_nul xs ≡ xs → before_nul ys ≡ ys → length xs + m ≡ length ys + n →
    slice_cmp nat_cmp (xs ++ replicate m 0) (ys ++ replicate n 0) ≡ slice_cmp nat_cmp xs ys
filled_cmp [] [] m n p q long =
    let same : n ≡ m = omega arith in ap (λ k. slice_cmp nat_cmp (replicate m 0) (replicate k 0)) same ∙ itself m
  where
    itself : (k : ℕ) → slice_cmp nat_cmp (replicate k 0) (replicate k 0) ≡ Equal
    itself zero = refl
    itself (suc k) = itself k
filled_cmp [] (y ∷ ys) zero n p q long = absurd (omega arith)
filled_cmp [] (y ∷ ys) (suc m) n p q long =
    ap (λ o. ordering_then o (slice_cmp nat_cmp (replicate m 0) (ys ++ replicate n 0))) (is_less 0 y (no_nul y ys q).0)
filled_cmp (x ∷ xs) [] m zero p q long = absurd (omega arith)
filled_cmp (x ∷ xs) [] m (suc n) p q long =
    ap (λ o. ordering_then o (slice_cmp nat_cmp (xs ++ replicate m 0) (replicate n 0))) (is_greater x 0 (no_nul x xs p).0)
filled_cmp (x ∷ xs) (y ∷ ys) m n p q long =
    ap (ordering_then (nat_cmp x y)) (filled_cmp xs ys m n (no_nul x xs p).1 (no_nul y ys q).1 (omega arith))

-- the order of two names as numbers is that of their bytes, one after the other
pub names_ordered : (a b : List ℕ) → length a ≡ 8 → length b ≡ 8 → ((i : ℕ) → get_or a i 0 < 256) → ((i : ℕ) → get_or b i 0 < 256)
    → padded (before_nul a) ≡ a → padded (before_nul b) ≡ b →
    nat_cmp (from_be_bytes w64 a) (from_be_bytes w64 b) ≡ slice_cmp nat_cmp (before_nul a) (before_nul b)
names_ordered a b eight long small low p q =
    (λ i. nat_cmp (number_8 a eight i) (number_8 b long i))
    ∙ number-cmp a b (omega arith) small low
    ∙ (λ i. slice_cmp nat_cmp (form a eight p i) (form b long q i))
    ∙ filled_cmp (before_nul a) (before_nul b) (8 - length (before_nul a)) (8 - length (before_nul b))
    (before_nul-twice a) (before_nul-twice b) (omega (arith, length-before_nul-le a, length-before_nul-le b))
  where
    form : (c : List ℕ) → length c ≡ 8 → padded (before_nul c) ≡ c → c ≡ before_nul c ++ replicate (8 - length (before_nul c)) 0
    form c eight is = sym is ∙ padded-short (before_nul c) (length (before_nul c)) refl (omega (arith, length-before_nul-le c))

-- two names have the same number exactly where they are alike
pub names_alike : (a b : List ℕ) → length a ≡ 8 → length b ≡ 8 → ((i : ℕ) → get_or a i 0 < 256) → ((i : ℕ) → get_or b i 0 < 256)
    → padded (before_nul a) ≡ a → padded (before_nul b) ≡ b →
    nat_eq (from_be_bytes w64 a) (from_be_bytes w64 b) ≡ pointwise nat_eq (before_nul a) (before_nul b)
names_alike a b eight long small low p q =
    unsigned_ties (from_be_bytes w64 a) (from_be_bytes w64 b) ∙ ap is_eq (names_ordered a b eight long small low p q)
    ∙ sym (texts_ties (before_nul a) (before_nul b))
