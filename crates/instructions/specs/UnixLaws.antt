-- What holds of all lists of words and their lines with system calls, for either decoder. (section 2 of the Unix Programmer's Manual)
--
-- Nothing is lost or normalized, the first word alone decides which line it is, if enough words follow it.
use Rattle.std.specs.{Prelude.{◌≡◌, ℕ, ◌+◌, ◌<◌, ◌≤◌, List, ◌∷◌, length, take, drop, map, Some, None}, List.flat_map}
use Rattle.instructions.specs.UnixLines.{call_word, call_by, unix_line_at, unix_length, unix_words, unix_lines}
use Rattle.instructions.specs.{declared.field.Field.TheVariants.Byte, declared.operation.Operation.TheVariants.Sys}
use Rattle.instructions.specs.{declared.operand.Operand.TheVariants.Number, declared.instruction.Instruction.Instruction}
use Rattle.instructions.specs.{declared.call_table.TheConstants.CALLS, declared.call_table.CallRow.CallRow, declared.unix.Decoder.Decoder}
use Rattle.instructions.specs.{declared.unix.UnixLine.TheVariants.Machine, declared.unix.UnixLine.TheVariants.Call, Calls.system_calls}
use Rattle.instructions.specs.{Lines.line_at, Instructions.instruction_of}

-- the words of a line are those that it was made of
abbrev pub UnixIdentityLaw : Type 0
UnixIdentityLaw = (d : Decoder) (words : List ℕ) (place : ℕ) → place < length words →
    unix_words (unix_line_at d words place) (drop (place + 1) words) ≡ take (unix_length (unix_line_at d words place)) (drop place words)

-- if at least four words follow it, what a first word begins does not depend on them: a call, or else a line of the machine, for which
-- the law of first words holds
pub record UnixFirstWordLaw : Type 0 where
  pub call : (d : Decoder) (w : ℕ) (c : CallRow) (following : List ℕ) → call_by d w ≡ Some c → 4 ≤ length following →
      unix_line_at d (w ∷ following) 0 ≡ Call c
  pub machine : (d : Decoder) (w : ℕ) (following : List ℕ) → call_by d w ≡ None →
      unix_line_at d (w ∷ following) 0 ≡ Machine (line_at (w ∷ following) 0)
  pub length : (d : Decoder) (w : ℕ) (following other : List ℕ) → 4 ≤ length following → 4 ≤ length other →
      unix_length (unix_line_at d (w ∷ following) 0) ≡ unix_length (unix_line_at d (w ∷ other) 0)

abbrev pub sys : ℕ → Instruction
sys n = record {
  row = record { operation = Sys; base = 0o104400; first = Some Byte; second = None };
  first = Some (Number n);
  second = None;
}

-- each call is made by `sys` with its number
abbrev pub AreMadeBySys : List CallRow → Type 0
AreMadeBySys calls = map (λ c. instruction_of (call_word c)) calls ≡ map (λ c. Some (sys c.number)) calls

-- every list of words is decoded whole, in lines of one to five words without a gap
pub record UnixTotalLaw : Type 0 where
  pub whole : (d : Decoder) (words : List ℕ) → flat_map (λ l. unix_words l.0 l.1) (unix_lines d words) ≡ words
  pub short : (d : Decoder) (words : List ℕ) (place : ℕ) →
      (1 ≤ unix_length (unix_line_at d words place)) × (unix_length (unix_line_at d words place) ≤ 5)

-- the rows of the code are those of the table
abbrev pub SameCalls : Type 0
SameCalls = CALLS ≡ system_calls
