-- The bytes before the first NUL, by the place of that NUL.
use Rattle.std.proofs.Common.{◌≡◌, ◌==◌, ◌+◌, ◌-◌, ◌≤◌, min, ℕ, Bool, true, false, List, [], ◌∷◌, ◌++◌, length, take, drop, replicate, cond}
use Rattle.std.proofs.Common.{refl, sym, ap, ◌∙◌, arith, if◌then◌else◌, zero, suc, nat_lt, ltb, Some, None}
use Rattle.std.proofs.{lemmas.List.{take_all, drop-replicate, take_min, take-replicate}, lemmas.List.Sums.prefix_len-le-length}
use Rattle.std.proofs.{lemmas.Bool.ltb-false, Math.Seq.take-append-add, lemmas.List.Recursion.is_position_or_len}
use Rattle.std.specs.List.{position, position_or_len}
use lib.Lanes.{sel_l, zip2}
use Rattle.aout_core.specs.Names.{before_nul, padded}

length-chosen : (c : Bool) (b : ℕ) (xs : List ℕ) → length (if c then [] else b ∷ xs) ≡ cond c 0 (1 + length xs)
length-chosen true b xs = refl
length-chosen false b xs = omega arith

-- the place that the code searches is the length of the name
pub position_or_len-nul : (xs : List ℕ) → position_or_len (λ b. b == 0) xs ≡ length (before_nul xs)
position_or_len-nul xs =
    sym (is_position_or_len (λ l. length (before_nul l)) (λ b. b == 0) refl (λ b l. length-chosen (b == 0) b (before_nul l)) xs)

-- cut there, the bytes are the name
pub take-before_nul : (xs : List ℕ) → take (length (before_nul xs)) xs ≡ before_nul xs
take-before_nul [] = refl
take-before_nul (b ∷ xs) = by (b == 0) (take-before_nul xs)
  where
    by : (c : Bool) → take (length (before_nul xs)) xs ≡ before_nul xs →
        take (length (if c then [] else b ∷ before_nul xs)) (b ∷ xs) ≡ (if c then [] else b ∷ before_nul xs)
    by true h = refl
    by false h = ap (λ l. b ∷ l) h

-- a name is no longer than its bytes
pub length-before_nul-le : (xs : List ℕ) → length (before_nul xs) ≤ length xs
length-before_nul-le xs = omega (arith, ap length (take-before_nul xs), position_or_len-nul xs, prefix_len-le-length {X = ℕ})

only_pad : (m : ℕ) → before_nul (replicate m 0) ≡ []
only_pad zero = refl
only_pad (suc m) = refl

-- what stands before the first NUL of a front that is filled up with NULs
pub before_nul-filled : (xs : List ℕ) (n m : ℕ) → before_nul (take n xs ++ replicate m 0) ≡ take n (before_nul xs)
before_nul-filled [] zero m = only_pad m
before_nul-filled [] (suc n) m = only_pad m
before_nul-filled (b ∷ xs) zero m = only_pad m
before_nul-filled (b ∷ xs) (suc n) m = by (b == 0) (before_nul-filled xs n m)
  where
    by : (c : Bool) → before_nul (take n xs ++ replicate m 0) ≡ take n (before_nul xs)
        → (if c then [] else b ∷ before_nul (take n xs ++ replicate m 0)) ≡ take (suc n) (if c then [] else b ∷ before_nul xs)
    by true h = refl
    by false h = ap (λ l. b ∷ l) h

-- a name has no NUL
pub before_nul-twice : (xs : List ℕ) → before_nul (before_nul xs) ≡ before_nul xs
before_nul-twice [] = refl
before_nul-twice (b ∷ xs) = by (b == 0) refl (before_nul-twice xs)
  where
    by : (c : Bool) → (b == 0) ≡ c → before_nul (before_nul xs) ≡ before_nul xs →
        before_nul (if c then [] else b ∷ before_nul xs) ≡ (if c then [] else b ∷ before_nul xs)
    by true e h = refl
    by false e h = rw (e, h) refl

pub ruleset by_place = (position_or_len-nul, take-before_nul, length-before_nul-le)

-- what `position` answered
pub nul_found : (xs : List ℕ) (n : ℕ) → Some n ≡ position (λ b. b == 0) xs → n ≡ length (before_nul xs)
nul_found xs n e = by (nat_lt (position_or_len (λ b. b == 0) xs) (length xs)) e
  where
    by : (c : Bool) → Some n ≡ cond c (Some (position_or_len (λ b. b == 0) xs)) None → n ≡ length (before_nul xs)
    by true h = let same : n ≡ position_or_len (λ b. b == 0) xs = cc in same ∙ position_or_len-nul xs
    by false h = cc

-- without a NUL the name is all bytes
pub nul_missing : (xs : List ℕ) → None ≡ position (λ b. b == 0) xs → length xs ≡ length (before_nul xs)
nul_missing xs e = by (nat_lt (position_or_len (λ b. b == 0) xs) (length xs)) refl e
  where
    by : (c : Bool) → nat_lt (position_or_len (λ b. b == 0) xs) (length xs) ≡ c →
        None ≡ cond c (Some (position_or_len (λ b. b == 0) xs)) None → length xs ≡ length (before_nul xs)
    by true t h = cc
    by false t h = omega (arith, ltb-false _ _ t, position_or_len-nul xs, length-before_nul-le xs)

-- a name of at most eight bytes, as it is padded
pub padded-short : (name : List ℕ) (n : ℕ) → length name ≡ n → n ≤ 8 → padded name ≡ name ++ replicate (8 - n) 0
padded-short name n e h =
    let split : length name + (8 - n) ≡ 8 = omega arith in
    ap (λ k. take k (name ++ replicate 8 0)) (sym split) ∙ take-append-add name (replicate 8 0) (8 - n)
    ∙ ap (λ l. name ++ l) (take-replicate (8 - n) 8 0 (omega arith))

-- the first bytes of a text, filled up to eight with NULs, have the same name
pub name_filled : (text bytes : List ℕ) (n : ℕ) → n ≡ min (length text) 8 →
    bytes ≡ take n text ++ drop n (replicate 8 0) → before_nul bytes ≡ take 8 (before_nul text)
name_filled text bytes n e b =
    let front : take n text ≡ take 8 text = ap (λ k. take k text) (omega (arith, e)) ∙ take_min 8 text in
    ap before_nul (b ∙ (λ i. front i ++ drop-replicate n 8 0 i)) ∙ before_nul-filled text 8 (8 - n)

-- eight bytes cut at their first NUL
pub cut_padded : (xs cut : List ℕ) → length xs ≡ 8 → cut ≡ take (length (before_nul xs)) xs ++ replicate (8 - length (before_nul xs)) 0
    → (before_nul cut ≡ before_nul xs) × (padded (before_nul cut) ≡ cut)
cut_padded xs cut long is =
    let name = before_nul xs in
    let end = length name in
    let within : end ≤ 8 = omega (arith, length-before_nul-le xs) in
    let view : before_nul cut ≡ name = ap before_nul is ∙ before_nul-filled xs end (8 - end) ∙ take_all end name (omega arith) in
    (view, ap padded view ∙ padded-short name end refl within ∙ ap (λ l. l ++ replicate (8 - end) 0) (sym (take-before_nul xs)) ∙ sym is)

-- eight lanes of which those below `end` are kept
pub lanes_kept : (bytes : List ℕ) (end : ℕ) → length bytes ≡ 8 → end ≤ 8
    → sel_l (zip2 ltb (0 ∷ 1 ∷ 2 ∷ 3 ∷ 4 ∷ 5 ∷ 6 ∷ 7 ∷ []) (replicate 8 end)) bytes (replicate 8 0)
    ≡ take end bytes ++ replicate (8 - end) 0
lanes_kept (a ∷ b ∷ c ∷ d ∷ e ∷ f ∷ g ∷ h ∷ []) end long within = by end within
  where
    by : (n : ℕ) → n ≤ 8 → sel_l (zip2 ltb (0 ∷ 1 ∷ 2 ∷ 3 ∷ 4 ∷ 5 ∷ 6 ∷ 7 ∷ []) (replicate 8 n))
        (a ∷ b ∷ c ∷ d ∷ e ∷ f ∷ g ∷ h ∷ []) (replicate 8 0)
        ≡ take n (a ∷ b ∷ c ∷ d ∷ e ∷ f ∷ g ∷ h ∷ []) ++ replicate (8 - n) 0
    by zero l = refl
    by (suc zero) l = refl
    by (suc (suc zero)) l = refl
    by (suc (suc (suc zero))) l = refl
    by (suc (suc (suc (suc zero)))) l = refl
    by (suc (suc (suc (suc (suc zero))))) l = refl
    by (suc (suc (suc (suc (suc (suc zero)))))) l = refl
    by (suc (suc (suc (suc (suc (suc (suc zero))))))) l = refl
    by (suc (suc (suc (suc (suc (suc (suc (suc zero)))))))) l = refl
    by (suc (suc (suc (suc (suc (suc (suc (suc (suc n))))))))) l = absurd (omega arith)
lanes_kept _ end long within = absurd (omega arith)
