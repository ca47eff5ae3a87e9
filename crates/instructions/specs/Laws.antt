-- What holds of all lists of words and their lines. (as(1), the handbook of the PDP-11/70)
--
-- Nothing is lost or normalized: encoding what was decoded gives the same words. The first word alone decides the instruction and
-- the length, if enough words follow it.
use Rattle.std.specs.Prelude.{◌≡◌, ℕ, ◌<◌, ◌≤◌, nat_lt, if◌then◌else◌, Option, Some, None, List, [], ◌∷◌, length, filter}
use Rattle.std.specs.{Prelude.{take, drop}, List.flat_map}
use Rattle.instructions.specs.Lines.{line_at, line_of, line_length, words_of, lines}
use Rattle.instructions.specs.{declared.table.Row.Row, declared.table.TheConstants.ROWS, Table.table, Rows.begins, Rows.row_of}
use Rattle.instructions.specs.{declared.instruction.Instruction.Instruction, declared.line.Line.Line, declared.line.Line.TheVariants.Plain}
use Rattle.instructions.specs.{declared.line.Line.TheVariants.Decoded, Instructions.instruction_of}

-- the words of a line are those that it was made of
abbrev pub IdentityLaw : Type 0
IdentityLaw = (words : List ℕ) (place : ℕ) → place < length words →
    words_of (line_at words place) ≡ take (line_length (line_at words place)) (drop place words)

abbrev pub shape : Line → Option Instruction
shape (Plain w) = None
shape (Decoded i a b) = Some i

-- if at least two words follow it, what a first word begins does not depend on them
pub record FirstWordLaw : Type 0 where
  pub instruction : (w : ℕ) (following : List ℕ) → 2 ≤ length following → shape (line_of (instruction_of w) w following) ≡ instruction_of w
  pub length : (w : ℕ) (following other : List ℕ) → 2 ≤ length following → 2 ≤ length other →
      line_length (line_of (instruction_of w) w following) ≡ line_length (line_of (instruction_of w) w other)

-- every list of words is decoded whole, in lines of one to three words without a gap
pub record TotalLaw : Type 0 where
  pub whole : (words : List ℕ) → flat_map words_of (lines words) ≡ words
  pub short : (line : Line) → (1 ≤ line_length line) × (line_length line ≤ 3)

-- a row among others, before the first of them with a larger base
abbrev pub placed : Row → List Row → List Row
placed row [] = row ∷ []
placed row (other ∷ rows) = if nat_lt row.base other.base then row ∷ (other ∷ rows) else other ∷ placed row rows

-- rows in the order of their bases
abbrev pub in_order : List Row → List Row
in_order [] = []
in_order (row ∷ rows) = placed row (in_order rows)

-- the rows of the code, by which it decodes and encodes, are those of the table, in the order of their bases
abbrev pub SameTable : Type 0
SameTable = ROWS ≡ in_order table

-- each word is in one row of the table at most
abbrev pub OneRow : Type 0
OneRow = (w : ℕ) → length (filter (λ row. begins row w) table) ≤ 1

abbrev pub EachFound : List Row → Type 0
EachFound [] = Unit {0}
EachFound (row ∷ rows) = (row_of row.base ≡ Some row) × EachFound rows

-- each row of the table is found at its base, so none is there in vain
abbrev pub RowsAreFound : Type 0
RowsAreFound = EachFound table
