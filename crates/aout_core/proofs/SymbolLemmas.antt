-- An entry by its twelve bytes.
use borrow.Rule.Slice.PartMut.{put_mid}
use Rattle.std.proofs.lemmas.List.{drop_all}
use Rattle.std.proofs.Common.{◌≡◌, ℕ, ◌+◌, ◌*◌, ◌≤◌, List, [], ◌∷◌, ◌++◌, length, take, drop, slice_index_or, refl, sym, ap, ◌∙◌, arith}
use Rattle.std.proofs.Common.{append_assoc, append-nil, length-append, length-drop, length-take, take_all, take_at, drop_at}
use Rattle.std.specs.Prelude.{slice_index}
use Rattle.byteorder.specs.Endian.{little_number}
use Rattle.aout_core.specs.{declared.symbol.Symbol.Symbol, Words.words_in, Names.before_nul, Decoding.part, Decoding.symbol_in}
use Rattle.aout_core.proofs.NameLemmas.{length-before_nul-le}

two_words : (bytes : List ℕ) → length bytes ≡ 12 →
    words_in (part 8 4 bytes)
    ≡ (slice_index_or bytes 8 0 + 256 * slice_index_or bytes 9 0) ∷ (slice_index_or bytes 10 0 + 256 * slice_index_or bytes 11 0) ∷ []
two_words (a ∷ (b ∷ (c ∷ (d ∷ (e ∷ (f ∷ (g ∷ (h ∷ (i ∷ (j ∷ (k ∷ (l ∷ [])))))))))))) e12 = refl
two_words _ e12 = absurd (omega arith)

words_after_name : (bytes : List ℕ) → length bytes ≡ 12 →
    (little_number 2 (part 8 2 bytes) ≡ slice_index_or bytes 8 0 + 256 * slice_index_or bytes 9 0)
    × (little_number 2 (part 10 2 bytes) ≡ slice_index_or bytes 10 0 + 256 * slice_index_or bytes 11 0)
words_after_name (a ∷ (b ∷ (c ∷ (d ∷ (e ∷ (f ∷ (g ∷ (h ∷ (i ∷ (j ∷ (k ∷ (l ∷ [])))))))))))) e12 = (omega arith, omega arith)
words_after_name _ e12 = absurd (omega arith)

-- the name and the words as the code reads them
pub symbol_in-twelve : (bytes name : List ℕ) (type_bits value : ℕ) → length bytes ≡ 12 → name ≡ take 8 (before_nul (take 8 bytes)) →
    type_bits ≡ little_number 2 (part 8 2 bytes) → value ≡ little_number 2 (part 10 2 bytes) →
    (let s : Symbol = record { name = name; type_bits = type_bits; value = value } in s) ≡ symbol_in bytes
symbol_in-twelve bytes name type_bits value long n t v =
    let short : length (before_nul (take 8 bytes)) ≤ 8 = omega (arith, length-before_nul-le (take 8 bytes), length-take 8 bytes) in
    let whole : name ≡ before_nul (take 8 bytes) = n ∙ take_all 8 (before_nul (take 8 bytes)) short in
    let words = two_words bytes long in
    let here = words_after_name bytes long in
    let first : type_bits ≡ slice_index (words_in (part 8 4 bytes)) 0 = t ∙ here.0 ∙ rw words refl in
    let second : value ≡ slice_index (words_in (part 8 4 bytes)) 1 = v ∙ here.1 ∙ rw words refl in
    λ i. record { name = whole i; type_bits = first i; value = second i }

-- an entry as the code writes it over twelve bytes
pub twelve_laid : (name bytes first second : List ℕ) → length name ≡ 8 → length bytes ≡ 12 → length first ≡ 2 → length second ≡ 2 →
    put_mid 10 2 (put_mid 8 2 (name ++ drop 8 bytes) first) second ≡ name ++ (first ++ second)
twelve_laid name bytes first second n b f s =
    let tail = drop 8 bytes in
    let rest = drop 2 tail in
    let after : drop 2 rest ≡ [] = drop_all 2 rest (omega (arith, length-drop 8 bytes, length-drop 2 tail)) in
    let one : put_mid 8 2 (name ++ tail) first ≡ (name ++ first) ++ rest =
    ap (λ l. l ++ (first ++ drop 2 (drop 8 (name ++ tail)))) (take_at name tail 8 n)
    ∙ ap (λ l. name ++ (first ++ drop 2 l)) (drop_at name tail 8 n)
    ∙ sym (append_assoc name first rest) in
    let ten : length (name ++ first) ≡ 10 = omega (arith, length-append name first) in
    ap (λ l. put_mid 10 2 l second) one
    ∙ ap (λ l. l ++ (second ++ drop 2 (drop 10 ((name ++ first) ++ rest)))) (take_at (name ++ first) rest 10 ten)
    ∙ ap (λ l. (name ++ first) ++ (second ++ drop 2 l)) (drop_at (name ++ first) rest 10 ten)
    ∙ ap (λ l. (name ++ first) ++ (second ++ l)) after
    ∙ ap (λ l. (name ++ first) ++ l) (append-nil second)
    ∙ append_assoc name first second
