-- Instructions without their operand words: the instruction that a first word encodes, and the first word of an instruction. (as(1))
use Rattle.std.specs.Prelude.{ℕ, ◌+◌, ◌*◌, ◌/◌, ◌%◌, Bool, true, false, ◌||◌, if◌then◌else◌, Option, Some, None}
use Rattle.instructions.specs.{Operands.{operand_of, value_of, takes_word, is_missing}, declared.field.Field.Field}
use Rattle.instructions.specs.{declared.operation.Operation.Operation, declared.operation.Operation.TheVariants.{Jmp, Jsr}}
use Rattle.instructions.specs.{declared.operand.Operand.Operand, declared.table.Row.Row, declared.instruction.Instruction.Instruction}
use Rattle.instructions.specs.{Fields.{place, size}, Rows.row_of}

-- the operand in a field of a word
abbrev pub field_operand : Option Field → ℕ → Option Operand
field_operand None w = None
field_operand (Some f) w = Some (operand_of f (w / place f % size f))

abbrev pub instruction : Row → ℕ → Instruction
instruction o w = record { row = o; first = field_operand o.first w; second = field_operand o.second w }

-- the instruction of a word in a row; a word with fr6 or fr7 encodes none
abbrev pub instruction_in : Option Row → ℕ → Option Instruction
instruction_in None w = None
instruction_in (Some o) w =
    if is_missing (field_operand o.first w) || is_missing (field_operand o.second w) then None else Some (instruction o w)

abbrev pub instruction_of : ℕ → Option Instruction
instruction_of w = instruction_in (row_of w) w

-- the next instruction is fetched from the operand
abbrev pub jumps : Operation → Bool
jumps Jmp = true
jumps Jsr = true
jumps _ = false

-- what an operand adds to the base
abbrev pub added : Option Field → Option Operand → ℕ
added (Some f) (Some x) = value_of x * place f
added _ _ = 0

abbrev pub first_word : Instruction → ℕ
first_word i = i.row.base + added i.row.first i.first + added i.row.second i.second

-- how many operand words follow
abbrev pub word_count_of : Option Operand → ℕ
word_count_of x = if takes_word x then 1 else 0

abbrev pub following_words : Instruction → ℕ
following_words i = word_count_of i.first + word_count_of i.second
