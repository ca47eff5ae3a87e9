-- What an instruction of a linked program finds by an operand word. (ld(1), the handbook of the PDP-11/70)
--
-- The machine takes an operand word by the mode: in 67 and 77 it adds the address after the word; in 27, 37 and as an index it uses the
-- word as it is. An assembler sets the pc bit of the relocation word in the first case alone. Then the machine finds what `operand` of
-- Operands finds.
use Rattle.std.specs.Prelude.{ℕ, ◌%◌, Bool, true, false, ◌||◌, if◌then◌else◌}
use Rattle.aout_core.specs.{Words.plus}
use Rattle.instructions.specs.declared.mode.Addressing.TheVariants.{Immediate, Absolute, Relative, RelativeDeferred, Indexed}
use Rattle.instructions.specs.{declared.operation.Operation.Operation, declared.operation.Operation.TheVariants.Mfpi}
use Rattle.instructions.specs.{declared.operation.Operation.TheVariants.Mtpi, declared.mode.Addressing.Addressing, Instructions.jumps}
use Rattle.laws.specs.{Core.Space, Core.of_instructions, Core.of_data}

-- what the machine makes of an operand word, by the address after the word, modulo 65,536
abbrev pub machine_value : Addressing → ℕ → ℕ → ℕ
machine_value Relative next word = plus word next
machine_value RelativeDeferred next word = plus word next
machine_value Absolute next word = word % 65536
machine_value Immediate next word = word % 65536
machine_value Indexed next word = word % 65536

-- the operation moves a word from or to the space of instructions of the processor's previous mode. If both modes are those of a user,
-- the PDP-11/70 has `mfpi` read the space of data instead
abbrev pub moves_instructions : Operation → Bool
moves_instructions Mfpi = true
moves_instructions Mtpi = true
moves_instructions _ = false

-- the space in which the machine uses that as an address: of the next instruction, or of an operand or its address
abbrev pub space_used : Operation → Addressing → Space
space_used operation Relative = if jumps operation || moves_instructions operation then of_instructions else of_data
space_used operation Absolute = if jumps operation || moves_instructions operation then of_instructions else of_data
space_used operation _ = of_data
