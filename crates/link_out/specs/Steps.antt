-- Steps of which the first refusal counts, for callers that name refusals in their own way.
use Rattle.std.specs.Prelude.{Option, Some, None, Result, Ok, Err}

-- the next step, with what the one before it gives
abbrev pub and_then : {A B E : Type 0} → Result A E → (A → Result B E) → Result B E
and_then (Ok x) f = f x
and_then (Err e) f = Err e

-- a value, unless there is a fault, which is refused by this name
abbrev pub unless : {A E F : Type 0} → (F → E) → Option F → A → Result A E
unless name None x = Ok x
unless name (Some fault) x = Err (name fault)

-- the same value, or the fault by this name
abbrev pub refused_as : {A E F : Type 0} → (F → E) → Result A F → Result A E
refused_as name (Ok x) = Ok x
refused_as name (Err fault) = Err (name fault)
