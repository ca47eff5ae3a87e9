-- Lines of text: the line that the words at a place encode, and the words of a line. (as(1); plain words: own choice)
--
-- A word begins an instruction if the table has it and enough words follow it; any other word is plain, a line of its own.
use Rattle.std.specs.Prelude.{ℕ, zero, suc, ◌+◌, nat_lt, if◌then◌else◌, Option, Some, None, List, [], ◌∷◌, ◌++◌, length, drop, slice_get}
use Rattle.std.specs.Prelude.{slice_index}
use Rattle.instructions.specs.{Instructions.{instruction_of, first_word, word_count_of, following_words}, declared.operand.Operand.Operand}
use Rattle.instructions.specs.{declared.instruction.Instruction.Instruction, declared.line.Line.Line}
use Rattle.instructions.specs.{declared.line.Line.TheVariants.{Plain, Decoded}, declared.line.Words.Words}
use Rattle.instructions.specs.{declared.line.Words.TheVariants.{One, Two, Three}, Operands.takes_word}

-- the word of an operand, if it has one, at a place among those that follow the first word
abbrev pub word_for : Option Operand → ℕ → List ℕ → Option ℕ
word_for x place following = if takes_word x then slice_get following place else None

-- the line of a first word and the words that follow it. If they end before the instruction does, it is cut, and its first word is plain
abbrev pub line_of : Option Instruction → ℕ → List ℕ → Line
line_of None w following = Plain w
line_of (Some i) w following =
    if nat_lt (length following) (following_words i) then Plain w
    else Decoded i (word_for i.first 0 following) (word_for i.second (word_count_of i.first) following)

abbrev pub line_at : List ℕ → ℕ → Line
line_at words place = let w = slice_index words place in line_of (instruction_of w) w (drop (place + 1) words)

abbrev pub line_length : Line → ℕ
line_length (Plain w) = 1
line_length (Decoded i a b) = 1 + following_words i

abbrev pub word_list : Option ℕ → List ℕ
word_list None = []
word_list (Some w) = w ∷ []

-- the first word of a line
abbrev pub start_of : Line → ℕ
start_of (Plain w) = w
start_of (Decoded i a b) = first_word i

abbrev pub words_of : Line → List ℕ
words_of (Plain w) = w ∷ []
words_of (Decoded i a b) = first_word i ∷ (word_list a ++ word_list b)

abbrev pub listed : Words → List ℕ
listed (One words) = words
listed (Two words) = words
listed (Three words) = words

-- the lines of the words, one after the other, at most so many
abbrev pub lines_within : ℕ → List ℕ → List Line
lines_within zero words = []
lines_within (suc n) [] = []
lines_within (suc n) (w ∷ following) =
    let line : Line = line_of (instruction_of w) w following in line ∷ lines_within n (drop (line_length line) (w ∷ following))

abbrev pub lines : List ℕ → List Line
lines words = lines_within (length words) words
