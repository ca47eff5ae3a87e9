-- The operand that a value in a field of a first word encodes, and the value of an operand. (the handbook of the PDP-11/70)
use Rattle.std.specs.Prelude.{ℕ, ◌+◌, ◌*◌, ◌/◌, ◌%◌, Bool, false, nat_lt, not, if◌then◌else◌, Option, Some}
use Rattle.instructions.specs.declared.operand.Operand.TheVariants.{General, Accumulator, Register, Forward, Backward, Number}
use Rattle.instructions.specs.Modes.{mode_numbered, mode_number, register_numbered, register_number, has_word}
use Rattle.instructions.specs.{declared.field.Field.Field, declared.operand.Operand.Operand}
use Rattle.instructions.specs.declared.field.Field.TheVariants as fields

-- mode in the upper three bits, register in the lower three
abbrev pub general : ℕ → Operand
general v = General (mode_numbered (v / 8)) (register_numbered (v % 8))

-- the operand that a value in a field encodes
abbrev pub operand_of : Field → ℕ → Operand
operand_of fields.Source v = general v
operand_of fields.Destination v = general v
operand_of fields.Floating v = if nat_lt v 8 then Accumulator v else general v
operand_of fields.Register v = Register (register_numbered v)
operand_of fields.LowRegister v = Register (register_numbered v)
operand_of fields.Accumulator v = Accumulator v
operand_of fields.Forward v = Forward v
operand_of fields.Backward v = Backward v
operand_of fields.NineBits v = Number v
operand_of fields.Byte v = Number v
operand_of fields.SixBits v = Number v
operand_of fields.ThreeBits v = Number v

-- the value of an operand
abbrev pub value_of : Operand → ℕ
value_of (General m r) = mode_number m * 8 + register_number r
value_of (Accumulator v) = v
value_of (Register r) = register_number r
value_of (Forward v) = v
value_of (Backward v) = v
value_of (Number v) = v

abbrev pub takes_word : Option Operand → Bool
takes_word (Some (General m r)) = has_word m r
takes_word _ = false

-- fr6 and fr7: the machine does not have these accumulators
abbrev pub is_missing : Option Operand → Bool
is_missing (Some (Accumulator v)) = not (nat_lt v 6)
is_missing _ = false
