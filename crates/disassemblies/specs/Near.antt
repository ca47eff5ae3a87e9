-- The nearest label of a segment at an address or before it.
--
-- Of several with one value an external comes first, and then the first of the table.
use Rattle.std.specs.Prelude.{ℕ, zero, suc, ◌-◌, nat_le, if◌then◌else◌, List, Option, Some, None}
use Rattle.aout_core.specs.{declared.symbol.Symbol.Symbol, declared.symbol.Segment.Segment, WellFormed.first_of}
use Rattle.instructions.specs.declared.reference.Reference.{Reference}
use Rattle.disassemblies.specs.Naming.{symbol_at}

-- a symbol, and so many bytes beyond it
abbrev pub bytes_beyond : Option Symbol → ℕ → Option Reference
bytes_beyond None n = None
bytes_beyond (Some s) n = Some (record { name = s.name; offset = n })

-- the label so many bytes before an address, if there is one
abbrev pub label_before : List Symbol → Segment → ℕ → ℕ → Option Reference
label_before symbols segment address n =
    if nat_le n address then bytes_beyond (symbol_at symbols segment (address - n)) n else None

-- the nearest of the labels that are fewer than so many bytes before an address
abbrev pub nearest_within : List Symbol → Segment → ℕ → ℕ → Option Reference
nearest_within symbols segment address zero = None
nearest_within symbols segment address (suc n) =
    first_of (nearest_within symbols segment address n) (label_before symbols segment address n)

-- the nearest of all
unfoldable pub nearest_label : List Symbol → Segment → ℕ → Option Reference
nearest_label symbols segment address = nearest_within symbols segment address (suc address)
