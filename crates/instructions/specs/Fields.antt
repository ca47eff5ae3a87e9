-- The fields of a first word: the value of the lowest bit, and how many values a field has. (the handbook of the PDP-11/70)
use Rattle.std.specs.Prelude.{ℕ}
use Rattle.instructions.specs.declared.field.Field.{Field}
use Rattle.instructions.specs.declared.field.Field.TheVariants.{Source, Destination, Floating, Register, LowRegister, Accumulator, Forward}
use Rattle.instructions.specs.declared.field.Field.TheVariants.{Backward, NineBits, Byte, SixBits, ThreeBits}

abbrev pub place : Field → ℕ
place Source = 0o100
place Register = 0o100
place Accumulator = 0o100
place _ = 1

abbrev pub size : Field → ℕ
size Source = 0o100
size Destination = 0o100
size Floating = 0o100
size Backward = 0o100
size SixBits = 0o100
size Register = 0o10
size LowRegister = 0o10
size ThreeBits = 0o10
size Accumulator = 4
size Forward = 0o400
size Byte = 0o400
size NineBits = 0o1000
