-- Words as `byteorder` reads and writes them.
use Rattle.std.specs.{Int.w16, Prelude.slice_index, List.flat_map}
use Rattle.std.proofs.Common.{Fits, ◌≡◌, ℕ, suc, ◌+◌, ◌*◌, ◌/◌, ◌%◌, ◌<◌, List, [], ◌∷◌, ◌++◌, length, drop, refl, ◌∙◌, ap, arith}
use Rattle.byteorder.specs.Endian.{little_bytes, little_number, IsRead}
use Rattle.aout_core.specs.Words.{word_bytes, words_in, all_word_bytes}

-- a word of 16 bits needs no more than two bytes
pub little_bytes-word : (w : ℕ) → w < 65536 → little_bytes 2 w ≡ word_bytes w
little_bytes-word w h =
    let high : w / 256 % 256 ≡ w / 256 = omega arith in
    ap (λ b. w % 256 ∷ b ∷ []) high

-- the words that stand in the bytes, one after the other
pub is_read-words : (src dst : List ℕ) → length src ≡ 2 * length dst → IsRead little_number 2 src dst → dst ≡ words_in src
is_read-words [] [] long read = refl
is_read-words (a ∷ bs) [] long read = absurd (omega arith)
is_read-words [] (d ∷ ds) long read = absurd (omega arith)
is_read-words (a ∷ []) (d ∷ ds) long read = absurd (omega arith)
is_read-words (a ∷ (b ∷ rest)) (d ∷ ds) long read =
    let here : d ≡ a + 256 * (b + 0) = read 0 (omega arith) in
    let first : d ≡ a + 256 * b = omega arith in
    let later : IsRead little_number 2 rest ds =
    λ k within. let e : 2 * suc k ≡ suc (suc (2 * k)) =
    omega arith in read (suc k) (omega arith) ∙ ap (λ n. little_number 2 (drop n (a ∷ (b ∷ rest)))) e in
    λ i. first i ∷ is_read-words rest ds (omega arith) later i

-- the bytes that `byteorder` writes are those of the definition
pub little_bytes-words : (ws : List ℕ) → ((i : ℕ) → Fits w16 (slice_index ws i)) → flat_map (little_bytes 2) ws ≡ all_word_bytes ws
little_bytes-words [] fits = refl
little_bytes-words (w ∷ ws) fits =
    let here : Fits w16 w = fits 0 in
    let word = little_bytes-word w (omega arith) in
    let later = little_bytes-words ws (λ i. fits (suc i)) in
    λ i. word i ++ later i
