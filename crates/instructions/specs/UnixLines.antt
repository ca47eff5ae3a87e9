-- Lines of text of Unix: those of the machine, and system calls with their arguments. (section 2 of the Unix Programmer's Manual,
-- Seventh Edition; calls that are cut: own choice)
--
-- The call of number N is made by the instruction 104400 + N, and its arguments are the words after it. If the words end before them,
-- the call is cut: its first word is plain, as that of an instruction that is cut.
use Rattle.std.specs.Prelude.{ℕ, zero, suc, ◌+◌, eqb, nat_lt, if◌then◌else◌, Option, Some, None, List, [], ◌∷◌, length, take}
use Rattle.std.specs.{Prelude.{drop, slice_index}, List.find}
use Rattle.instructions.specs.{declared.call_table.CallRow.CallRow, declared.line.Line.TheVariants.Plain, declared.unix.Decoder.Decoder}
use Rattle.instructions.specs.{declared.unix.UnixLine.UnixLine, declared.unix.UnixLine.TheVariants.Machine}
use Rattle.instructions.specs.{declared.unix.UnixLine.TheVariants.Call}
use Rattle.instructions.specs.{Calls.system_calls, Lines.line_at, Lines.line_length, Lines.words_of}
use Rattle.instructions.specs.declared.unix.Decoder.TheVariants as decoders

-- the word that makes a call
abbrev pub call_word : CallRow → ℕ
call_word c = 0o104400 + c.number

-- the call that a first word makes
unfoldable pub call_of : ℕ → Option CallRow
call_of w = find (λ c. eqb (call_word c) w) system_calls

-- a decoder of the plain PDP-11 knows no calls
abbrev pub call_by : Decoder → ℕ → Option CallRow
call_by decoders.Pdp11 w = None
call_by decoders.Unix w = call_of w

-- the line of a first word that makes a call or none, at a place of the words
abbrev pub unix_line : Option CallRow → List ℕ → ℕ → UnixLine
unix_line None words place = Machine (line_at words place)
unix_line (Some c) words place =
    if nat_lt (length (drop (place + 1) words)) c.words then Machine (Plain (slice_index words place)) else Call c

abbrev pub unix_line_at : Decoder → List ℕ → ℕ → UnixLine
unix_line_at d words place = unix_line (call_by d (slice_index words place)) words place

-- how many words it has
abbrev pub unix_length : UnixLine → ℕ
unix_length (Machine line) = line_length line
unix_length (Call c) = 1 + c.words

-- the words of a line, by those that follow its first word
abbrev pub unix_words : UnixLine → List ℕ → List ℕ
unix_words (Machine line) following = words_of line
unix_words (Call c) following = call_word c ∷ take c.words following

-- the lines of the words, one after the other, at most so many, each with the words that follow its first one
abbrev pub unix_lines_within : Decoder → ℕ → List ℕ → List (UnixLine × List ℕ)
unix_lines_within d zero words = []
unix_lines_within d (suc n) [] = []
unix_lines_within d (suc n) (w ∷ following) =
    let line : UnixLine = unix_line_at d (w ∷ following) 0 in
    (line, following) ∷ unix_lines_within d n (drop (unix_length line) (w ∷ following))

abbrev pub unix_lines : Decoder → List ℕ → List (UnixLine × List ℕ)
unix_lines d words = unix_lines_within d (length words) words
