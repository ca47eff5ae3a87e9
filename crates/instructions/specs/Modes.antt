-- The modes and registers of general operands, and how they use an operand word. (the handbook of the PDP-11/70)
use Rattle.std.specs.Prelude.{ℕ, Bool, true, false, if◌then◌else◌, Option, Some, None, [], ◌∷◌, slice_index_or}
use Rattle.instructions.specs.declared.mode.Mode.TheVariants.{Direct, Deferred, Increment, IncrementDeferred, Decrement, DecrementDeferred}
use Rattle.instructions.specs.declared.mode.Mode.TheVariants.{Index, IndexDeferred}
use Rattle.instructions.specs.declared.mode.Addressing.TheVariants.{Immediate, Absolute, Relative, RelativeDeferred, Indexed}
use Rattle.instructions.specs.declared.mode.Register.TheVariants.{R0, R1, R2, R3, R4, R5, Sp, Pc}
use Rattle.instructions.specs.{declared.mode.Mode.Mode, declared.mode.Addressing.Addressing, declared.mode.Register.Register}

abbrev pub mode_numbered : ℕ → Mode
mode_numbered n =
    slice_index_or (Direct ∷ Deferred ∷ Increment ∷ IncrementDeferred ∷ Decrement ∷ DecrementDeferred ∷ Index ∷ []) n IndexDeferred

abbrev pub mode_number : Mode → ℕ
mode_number Direct = 0
mode_number Deferred = 1
mode_number Increment = 2
mode_number IncrementDeferred = 3
mode_number Decrement = 4
mode_number DecrementDeferred = 5
mode_number Index = 6
mode_number IndexDeferred = 7

abbrev pub register_numbered : ℕ → Register
register_numbered n = slice_index_or (R0 ∷ R1 ∷ R2 ∷ R3 ∷ R4 ∷ R5 ∷ Sp ∷ []) n Pc

abbrev pub register_number : Register → ℕ
register_number R0 = 0
register_number R1 = 1
register_number R2 = 2
register_number R3 = 3
register_number R4 = 4
register_number R5 = 5
register_number Sp = 6
register_number Pc = 7

abbrev pub is_pc : Register → Bool
is_pc Pc = true
is_pc _ = false

-- an operand has a word of its own: modes 6 and 7, and 2 and 3 of the pc
abbrev pub has_word : Mode → Register → Bool
has_word Index r = true
has_word IndexDeferred r = true
has_word Increment r = is_pc r
has_word IncrementDeferred r = is_pc r
has_word _ r = false

-- how an operand uses its word, if it has one
abbrev pub addressing : Mode → Register → Option Addressing
addressing Index r = if is_pc r then Some Relative else Some Indexed
addressing IndexDeferred r = if is_pc r then Some RelativeDeferred else Some Indexed
addressing Increment r = if is_pc r then Some Immediate else None
addressing IncrementDeferred r = if is_pc r then Some Absolute else None
addressing _ r = None

-- the machine adds the address after the operand word to it: modes 67 and 77
abbrev pub counts_from_pc : Addressing → Bool
counts_from_pc Relative = true
counts_from_pc RelativeDeferred = true
counts_from_pc _ = false
