-- A line with a system call has the words that it was made of.
use Rattle.std.proofs.Common.{◌≡◌, ℕ, zero, suc, ◌+◌, ◌<◌, ◌≤◌, Bool, true, false, Option, Some, None, refl, sym, ap, ◌∙◌, arith}
use Rattle.std.proofs.{lemmas.Bool.Decides.nat_tests, lemmas.List.length-drop, lemmas.List.take-append-drop}
use Rattle.std.specs.{Prelude.{nat_lt, if◌then◌else◌, List, [], ◌∷◌, ◌++◌, length, take, drop, slice_index}, List.flat_map}
use Rattle.instructions.specs.UnixLines.{call_word, call_by, unix_line, unix_line_at, unix_length, unix_words, unix_lines_within}
use Rattle.instructions.specs.{UnixLaws.{UnixIdentityLaw, UnixFirstWordLaw, UnixTotalLaw}, declared.call_table.CallRow.CallRow}
use Rattle.instructions.specs.{declared.line.Line.TheVariants.Plain, declared.unix.Decoder.Decoder, declared.unix.UnixLine.UnixLine}
use Rattle.instructions.specs.{declared.unix.UnixLine.TheVariants.{Machine, Call}, Lines.line_at}
use Rattle.instructions.proofs.LineLemmas.{take_one_more, from_place, identity, first_word_decides, length_from}
use Rattle.instructions.proofs.CallLemmas.{call_sound, call_has_word}

abbrev cut_line : Bool → CallRow → ℕ → UnixLine
cut_line cut c w = if cut then Machine (Plain w) else Call c

cut_words : (cut : Bool) (c : CallRow) (w : ℕ) (following : List ℕ) → call_word c ≡ w →
    unix_words (cut_line cut c w) following ≡ take (unix_length (cut_line cut c w)) (w ∷ following)
cut_words true c w following is = sym (take_one_more 0 w following)
cut_words false c w following is = ap (λ x. x ∷ take c.words following) is ∙ sym (take_one_more c.words w following)

identity_by : (o : Option CallRow) (words : List ℕ) (place : ℕ) → place < length words →
    ((c : CallRow) → o ≡ Some c → call_word c ≡ slice_index words place) →
    unix_words (unix_line o words place) (drop (place + 1) words) ≡ take (unix_length (unix_line o words place)) (drop place words)
identity_by None words place h is = identity words place h
identity_by (Some c) words place h is =
    let w : ℕ = slice_index words place in
    let following : List ℕ = drop (place + 1) words in
    let cut : Bool = nat_lt (length following) c.words in
    cut_words cut c w following (is c refl) ∙ ap (take (unix_length (cut_line cut c w))) (sym (from_place words place h))

pub unix_identity : UnixIdentityLaw
unix_identity d words place h = identity_by (call_by d (slice_index words place)) words place h (call_has_word d (slice_index words place))

whole_call : (c : CallRow) (w : ℕ) (following : List ℕ) → 4 ≤ length following → c.words ≤ 4 → unix_line (Some c) (w ∷ following) 0 ≡ Call c
whole_call c w following h small =
    let enough : nat_lt (length following) c.words ≡ false = grind (arith, nat_tests) in
    ap (λ b. if b then Machine (Plain w) else Call c) enough

length_by : (o : Option CallRow) (w : ℕ) (following other : List ℕ) → 4 ≤ length following → 4 ≤ length other →
    ((c : CallRow) → o ≡ Some c → c.words ≤ 4) →
    unix_length (unix_line o (w ∷ following) 0) ≡ unix_length (unix_line o (w ∷ other) 0)
length_by None w following other h k small = first_word_decides.length w following other (omega arith) (omega arith)
length_by (Some c) w following other h k small =
    ap unix_length (whole_call c w following h (small c refl)) ∙ sym (ap unix_length (whole_call c w other k (small c refl)))

pub unix_first_word : UnixFirstWordLaw
unix_first_word = record {
  call =
      λ d w c following e h. ap (λ (o : Option CallRow). unix_line o (w ∷ following) 0) e
      ∙ whole_call c w following h (call_sound d w c e);
  machine = λ d w following e. ap (λ (o : Option CallRow). unix_line o (w ∷ following) 0) e;
  length = λ d w following other h k. length_by (call_by d w) w following other h k (λ c e. call_sound d w c e);
}

cut_length : (cut : Bool) (c : CallRow) (w : ℕ) → c.words ≤ 4 → (1 ≤ unix_length (cut_line cut c w)) × (unix_length (cut_line cut c w) ≤ 5)
cut_length true c w small = (omega arith, omega arith)
cut_length false c w small = (omega arith, omega arith)

short_by : (o : Option CallRow) (words : List ℕ) (place : ℕ) → ((c : CallRow) → o ≡ Some c → c.words ≤ 4) →
    (1 ≤ unix_length (unix_line o words place)) × (unix_length (unix_line o words place) ≤ 5)
short_by None words place small = let l = length_from (line_at words place) in (l.0, omega (arith, l.1))
short_by (Some c) words place small =
    cut_length (nat_lt (length (drop (place + 1) words)) c.words) c (slice_index words place) (small c refl)

pub unix_short : (d : Decoder) (words : List ℕ) (place : ℕ) →
    (1 ≤ unix_length (unix_line_at d words place)) × (unix_length (unix_line_at d words place) ≤ 5)
unix_short d words place =
    short_by (call_by d (slice_index words place)) words place (λ c e. call_sound d (slice_index words place) c e)

unix_back : (d : Decoder) (n : ℕ) (words : List ℕ) → length words ≤ n →
    flat_map (λ l. unix_words l.0 l.1) (unix_lines_within d n words) ≡ words
unix_back d zero [] h = refl
unix_back d zero (w ∷ following) h = absurd (omega arith)
unix_back d (suc n) [] h = refl
unix_back d (suc n) (w ∷ following) h =
    let line : UnixLine = unix_line_at d (w ∷ following) 0 in
    let k : ℕ = unix_length line in
    let some : 1 ≤ k = (unix_short d (w ∷ following) 0).0 in
    let rest : List ℕ = drop k (w ∷ following) in
    let fewer : length rest ≤ n = omega (arith, length-drop k (w ∷ following)) in
    ap (λ l. unix_words line following ++ l) (unix_back d n rest fewer)
    ∙ ap (λ l. l ++ rest) (unix_identity d (w ∷ following) 0 (omega arith))
    ∙ take-append-drop k (w ∷ following)

pub unix_total : UnixTotalLaw
unix_total = record { whole = λ d words. unix_back d (length words) words (omega arith); short = unix_short }
