-- The bytes of words, one after another.
use Rattle.std.proofs.Common.{◌≡◌, ℕ, zero, suc, ◌+◌, ◌*◌, ◌/◌, ◌%◌, List, [], ◌∷◌, Option, Some, ◌∙◌, ap, arith}
use Rattle.std.specs.Prelude.{slice_get}
use Rattle.aout_core.specs.Words.{all_word_bytes}

-- the byte at an even place is the low half of a word
pub low_byte : (ws : List ℕ) (n w : ℕ) → slice_get ws n ≡ Some w → slice_get (all_word_bytes ws) (2 * n) ≡ Some (w % 256)
low_byte [] n w e = absurd (cc)
low_byte (v ∷ ws) zero w e = let same : v ≡ w = cc in ap (λ (x : ℕ). let b : Option ℕ = Some (x % 256) in b) same
low_byte (v ∷ ws) (suc n) w e = ap (λ (m : ℕ). slice_get (all_word_bytes (v ∷ ws)) m) (next n) ∙ low_byte ws n w e
  where
    next : (n : ℕ) → 2 * suc n ≡ suc (suc (2 * n))
    next n = omega arith

-- and the next one its high half
pub high_byte : (ws : List ℕ) (n w : ℕ) → slice_get ws n ≡ Some w → slice_get (all_word_bytes ws) (2 * n + 1) ≡ Some (w / 256)
high_byte [] n w e = absurd (cc)
high_byte (v ∷ ws) zero w e = let same : v ≡ w = cc in ap (λ (x : ℕ). let b : Option ℕ = Some (x / 256) in b) same
high_byte (v ∷ ws) (suc n) w e = ap (λ (m : ℕ). slice_get (all_word_bytes (v ∷ ws)) m) (next n) ∙ high_byte ws n w e
  where
    next : (n : ℕ) → 2 * suc n + 1 ≡ suc (suc (2 * n + 1))
    next n = omega arith
