-- Bad relocation words: those of text and of data are one list.
use Rattle.std.proofs.Common.{◌≡◌, ℕ, ◌+◌, List, [], ◌∷◌, ◌++◌, length, refl, ap, arith, append_assoc}
use Rattle.aout_core.specs.{declared.reloc.Reloc.Reloc, Contents.Contents}
use Rattle.checks.specs.Wrong.{bad_words}

bad_words-append : (c : Contents) (place n : ℕ) (rs ss : List Reloc) →
    bad_words c place n (rs ++ ss) ≡ bad_words c place n rs ++ bad_words c place (n + length rs) ss
bad_words-append c place n [] ss = let same : n ≡ n + 0 = omega arith in ap (λ (k : ℕ). bad_words c place k ss) same
bad_words-append c place n (r ∷ rs) ss =
    let same : n + 1 + length rs ≡ n + length (r ∷ rs) = omega arith in
    rw (bad_words-append c place (n + 1) rs ss, same, append_assoc) refl

pub bad_words_joined : (c : Contents) (place : ℕ) (rs ss : List Reloc) →
    bad_words c place 0 (rs ++ ss) ≡ bad_words c place 0 rs ++ bad_words c place (length rs) ss
bad_words_joined c place rs ss =
    let same : 0 + length rs ≡ length rs = omega arith in rw (bad_words-append c place 0 rs ss, same) refl
