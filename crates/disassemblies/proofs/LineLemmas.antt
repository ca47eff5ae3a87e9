-- A line has one to five words, and ends within its text.
use Rattle.std.proofs.Common.{◌≡◌, ℕ, ◌+◌, ◌<◌, ◌≤◌, Bool, true, false, nat_lt, if◌then◌else◌, List, drop, Option, Some, None, length, refl}
use Rattle.std.proofs.{Common.arith, lemmas.Bool.Decides.nat_tests, lemmas.List.length-drop}
use Rattle.std.specs.Prelude.{slice_get, slice_index}
use Rattle.aout_core.specs.Contents.{Contents}
use Rattle.instructions.specs.{Instructions.{instruction_of, following_words, word_count_of}, Lines.{line_of, line_length, word_for}}
use Rattle.instructions.specs.{UnixLines.{call_by, unix_line, unix_line_at, unix_length}, declared.call_table.CallRow.CallRow}
use Rattle.instructions.specs.{declared.instruction.Instruction.Instruction, declared.line.Line.TheVariants.{Plain, Decoded}}
use Rattle.instructions.specs.{declared.unix.Decoder.Decoder, declared.unix.UnixLine.TheVariants.{Machine, Call}, Relocated.is_relocated}
use Rattle.instructions.proofs.UnixLemmas.{unix_short}
use Rattle.disassemblies.specs.Lines.{unix_line_in}

length_by : (d : Decoder) (c : Contents) (place : ℕ) (t : Bool) →
    (1 ≤ unix_length (if t then Machine (Plain (slice_index c.text_words place)) else unix_line_at d c.text_words place))
    × (unix_length (if t then Machine (Plain (slice_index c.text_words place)) else unix_line_at d c.text_words place) ≤ 5)
length_by d c place true = (omega arith, omega arith)
length_by d c place false = unix_short d c.text_words place

-- a line has one to five words
pub length_in : (d : Decoder) (c : Contents) (place : ℕ) →
    (1 ≤ unix_length (unix_line_in d c place)) × (unix_length (unix_line_in d c place) ≤ 5)
length_in d c place = length_by d c place (is_relocated (slice_get c.text_reloc place))

by_following : (i : Instruction) (w : ℕ) (following : List ℕ) (t : Bool) → nat_lt (length following) (following_words i) ≡ t →
    line_length (if t then Plain w
    else Decoded i (word_for i.first 0 following) (word_for i.second (word_count_of i.first) following)) ≤ 1 + length following
by_following i w following true e = omega arith
by_following i w following false e = let enough : following_words i ≤ length following = grind (arith, nat_tests) in omega arith

line_of_fits : (o : Option Instruction) (w : ℕ) (following : List ℕ) → line_length (line_of o w following) ≤ 1 + length following
line_of_fits None w following = omega arith
line_of_fits (Some i) w following = by_following i w following (nat_lt (length following) (following_words i)) refl

by_arguments : (k : CallRow) (w : ℕ) (following : List ℕ) (t : Bool) → nat_lt (length following) k.words ≡ t →
    unix_length (if t then Machine (Plain w) else Call k) ≤ 1 + length following
by_arguments k w following true e = omega arith
by_arguments k w following false e = let enough : k.words ≤ length following = grind (arith, nat_tests) in omega arith

unix_fits : (o : Option CallRow) (words : List ℕ) (place : ℕ) → place < length words →
    place + unix_length (unix_line o words place) ≤ length words
unix_fits None words place h =
    let w : ℕ = slice_index words place in
    omega (arith, line_of_fits (instruction_of w) w (drop (place + 1) words), length-drop (place + 1) words)
unix_fits (Some k) words place h =
    let following : List ℕ = drop (place + 1) words in
    let short : unix_length (unix_line (Some k) words place) ≤ 1 + length following =
    by_arguments k (slice_index words place) following (nat_lt (length following) k.words) refl in
    omega (arith, short, length-drop (place + 1) words)

fits_by : (d : Decoder) (c : Contents) (place : ℕ) (t : Bool) → place < length c.text_words →
    place + unix_length (if t then Machine (Plain (slice_index c.text_words place)) else unix_line_at d c.text_words place)
    ≤ length c.text_words
fits_by d c place true h = omega arith
fits_by d c place false h = unix_fits (call_by d (slice_index c.text_words place)) c.text_words place h

-- a line does not go beyond the text
pub line_fits : (d : Decoder) (c : Contents) (place : ℕ) → place < length c.text_words →
    place + unix_length (unix_line_in d c place) ≤ length c.text_words
line_fits d c place h = fits_by d c place (is_relocated (slice_get c.text_reloc place)) h
