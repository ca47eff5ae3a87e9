-- A line has the words that it was made of.
use Rattle.std.proofs.Common.{◌≡◌, ℕ, zero, suc, ◌+◌, ◌<◌, ◌≤◌, Bool, true, false, nat_lt, if◌then◌else◌, Option, Some, None, List, [], ◌∷◌}
use Rattle.std.proofs.Common.{◌++◌, length, take, drop, slice_get, slice_index, refl, sym, ap, ◌∙◌, arith}
use Rattle.std.proofs.lemmas.List.{length-drop, take-append-drop}
use Rattle.std.proofs.{lemmas.Bool.Decides.nat_tests, Math.Seq.drop-cons, Math.Numerals.add-one}
use Rattle.std.specs.List.{flat_map}
use Rattle.instructions.specs.Instructions.{instruction_of, first_word, word_count_of, following_words}
use Rattle.instructions.specs.Lines.{word_for, line_of, line_at, line_length, word_list, words_of, start_of, lines_within}
use Rattle.instructions.specs.{Laws.{IdentityLaw, FirstWordLaw, TotalLaw, shape}, declared.instruction.Instruction.Instruction}
use Rattle.instructions.specs.{declared.line.Line.Line, declared.line.Line.TheVariants.{Plain, Decoded}, Operands.takes_word}
use Rattle.instructions.proofs.FieldLemmas.{first_word_again}

-- the operand words, by which of two operands has one
operand_words : (a b : Bool) (following : List ℕ) → (if a then 1 else 0) + (if b then 1 else 0) ≤ length following →
    word_list (if a then slice_get following 0 else None) ++ word_list (if b then slice_get following (if a then 1 else 0) else None)
    ≡ take ((if a then 1 else 0) + (if b then 1 else 0)) following
operand_words false false following h = refl
operand_words true false [] h = absurd (omega arith)
operand_words true false (x ∷ rest) h = refl
operand_words false true [] h = absurd (omega arith)
operand_words false true (x ∷ rest) h = refl
operand_words true true [] h = absurd (omega arith)
operand_words true true (x ∷ []) h = absurd (omega arith)
operand_words true true (x ∷ y ∷ rest) h = refl

pub take_one_more : (n x : ℕ) (xs : List ℕ) → take (1 + n) (x ∷ xs) ≡ x ∷ take n xs
take_one_more n x xs = let e : 1 + n ≡ suc n = omega arith in ap (λ k. take k (x ∷ xs)) e

whole_words : (i : Instruction) (w : ℕ) (following : List ℕ) (b : Bool) →
    nat_lt (length following) (following_words i) ≡ b → first_word i ≡ w →
    let line : Line =
    if b then Plain w else Decoded i (word_for i.first 0 following) (word_for i.second (word_count_of i.first) following) in
    words_of line ≡ take (line_length line) (w ∷ following)
whole_words i w following true test starts = sym (take_one_more 0 w following)
whole_words i w following false test starts =
    let enough : following_words i ≤ length following = grind (arith, nat_tests) in
    ap (λ x. x ∷ (word_list (word_for i.first 0 following) ++ word_list (word_for i.second (word_count_of i.first) following))) starts
    ∙ ap (λ ws. w ∷ ws) (operand_words (takes_word i.first) (takes_word i.second) following enough)
    ∙ sym (take_one_more (following_words i) w following)

line_words : (o : Option Instruction) (w : ℕ) (following : List ℕ) → ((i : Instruction) → o ≡ Some i → first_word i ≡ w) →
    words_of (line_of o w following) ≡ take (line_length (line_of o w following)) (w ∷ following)
line_words None w following starts = sym (take_one_more 0 w following)
line_words (Some i) w following starts = whole_words i w following (nat_lt (length following) (following_words i)) refl (starts i refl)

-- the words from a place on are that word and those that follow it
pub from_place : (words : List ℕ) (place : ℕ) → place < length words → drop place words ≡ slice_index words place ∷ drop (place + 1) words
from_place words place h = drop-cons words place 0 h ∙ ap (λ n. slice_index words place ∷ drop n words) (sym (add-one place))

pub identity : IdentityLaw
identity words place h =
    let w : ℕ = slice_index words place in
    let following : List ℕ = drop (place + 1) words in
    line_words (instruction_of w) w following (first_word_again w)
    ∙ ap (take (line_length (line_at words place))) (sym (from_place words place h))

counted_once : (b : Bool) → (if b then 1 else 0) ≤ 1
counted_once true = omega arith
counted_once false = omega arith

two_enough : (i : Instruction) (following : List ℕ) → 2 ≤ length following → nat_lt (length following) (following_words i) ≡ false
two_enough i following h =
    let a : word_count_of i.first ≤ 1 = counted_once (takes_word i.first) in
    let b : word_count_of i.second ≤ 1 = counted_once (takes_word i.second) in
    grind (arith, nat_tests)

whole_line : (i : Instruction) (w : ℕ) (following : List ℕ) → 2 ≤ length following →
    line_of (Some i) w following ≡ Decoded i (word_for i.first 0 following) (word_for i.second (word_count_of i.first) following)
whole_line i w following h =
    ap (λ b. if b then Plain w else Decoded i (word_for i.first 0 following) (word_for i.second (word_count_of i.first) following))
    (two_enough i following h)

same_shape : (o : Option Instruction) (w : ℕ) (following : List ℕ) → 2 ≤ length following → shape (line_of o w following) ≡ o
same_shape None w following h = refl
same_shape (Some i) w following h = ap shape (whole_line i w following h)

same_length : (o : Option Instruction) (w : ℕ) (following other : List ℕ) → 2 ≤ length following → 2 ≤ length other →
    line_length (line_of o w following) ≡ line_length (line_of o w other)
same_length None w following other h k = refl
same_length (Some i) w following other h k = ap line_length (whole_line i w following h) ∙ sym (ap line_length (whole_line i w other k))

pub first_word_decides : FirstWordLaw
first_word_decides = record {
  instruction = λ w following h. same_shape (instruction_of w) w following h;
  length = λ w following other h k. same_length (instruction_of w) w following other h k;
}

pub length_from : (line : Line) → (1 ≤ line_length line) × (line_length line ≤ 3)
length_from (Plain w) = (omega arith, omega arith)
length_from (Decoded i a b) =
    let x : word_count_of i.first ≤ 1 = counted_once (takes_word i.first) in
    let y : word_count_of i.second ≤ 1 = counted_once (takes_word i.second) in
    (omega arith, omega arith)

lines_back : (n : ℕ) (words : List ℕ) → length words ≤ n → flat_map words_of (lines_within n words) ≡ words
lines_back zero [] h = refl
lines_back zero (w ∷ following) h = absurd (omega arith)
lines_back (suc n) [] h = refl
lines_back (suc n) (w ∷ following) h =
    let line : Line = line_of (instruction_of w) w following in
    let k : ℕ = line_length line in
    let some : 1 ≤ k = (length_from line).0 in
    let rest : List ℕ = drop k (w ∷ following) in
    let fewer : length rest ≤ n = omega (arith, length-drop k (w ∷ following)) in
    ap (λ l. words_of line ++ l) (lines_back n rest fewer)
    ∙ ap (λ l. l ++ rest) (line_words (instruction_of w) w following (first_word_again w))
    ∙ take-append-drop k (w ∷ following)

pub total : TotalLaw
total = record { whole = λ words. lines_back (length words) words (omega arith); short = length_from }

start_by : (cut : Bool) (i : Instruction) (w : ℕ) (a b : Option ℕ) → first_word i ≡ w →
    start_of (if cut then Plain w else Decoded i a b) ≡ w
start_by true i w a b e = refl
start_by false i w a b e = e

line_start : (o : Option Instruction) (w : ℕ) (following : List ℕ) →
    ((i : Instruction) → o ≡ Some i → first_word i ≡ w) → start_of (line_of o w following) ≡ w
line_start None w following starts = refl
line_start (Some i) w following starts =
    start_by (nat_lt (length following) (following_words i)) i w (word_for i.first 0 following)
    (word_for i.second (word_count_of i.first) following) (starts i refl)

fits_by : (b : Bool) (i : Instruction) (w : ℕ) (following : List ℕ) (x y : Option ℕ) → nat_lt (length following) (following_words i) ≡ b →
    line_length (if b then Plain w else Decoded i x y) ≤ 1 + length following
fits_by true i w following x y test = omega arith
fits_by false i w following x y test = grind (arith, nat_tests)

pub line_within : (o : Option Instruction) (w : ℕ) (following : List ℕ) → line_length (line_of o w following) ≤ 1 + length following
line_within None w following = omega arith
line_within (Some i) w following =
    fits_by (nat_lt (length following) (following_words i)) i w following (word_for i.first 0 following)
    (word_for i.second (word_count_of i.first) following) refl

-- a line ends with the words at the latest
pub line_fits : (words : List ℕ) (place : ℕ) → place < length words → place + line_length (line_at words place) ≤ length words
line_fits words place h =
    let w : ℕ = slice_index words place in
    let short : line_length (line_at words place) ≤ 1 + length (drop (place + 1) words) =
    line_within (instruction_of w) w (drop (place + 1) words) in
    omega (arith, length-drop (place + 1) words)

-- a line begins with the word that it was made of
pub start_again : (words : List ℕ) (place : ℕ) → start_of (line_at words place) ≡ slice_index words place
start_again words place =
    let w : ℕ = slice_index words place in line_start (instruction_of w) w (drop (place + 1) words) (first_word_again w)
