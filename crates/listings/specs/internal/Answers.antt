-- What the functions that read rows return: what the definitions give, unless memory ran out. A mistake changes nothing.
use Rattle.std.specs.Prelude.{◌≡◌, Result, Ok, Err}
use Rattle.listings.specs.{declared.fault.RowFault.RowFault, declared.fault.RowFault.TheVariants.{Memory, Wrong}, Reading.Mistake}

abbrev pub Fails : {Y : Type 0} → RowFault → Result Y Mistake → Type 0
Fails (Memory _) found = Unit {0}
Fails (Wrong k reason) found = found ≡ Err (k, reason)

-- the value that was returned, seen by view
abbrev pub Found : {X Y : Type 0} → (X → Y) → Result X RowFault → Result Y Mistake → Type 0
Found view (Ok x) found = found ≡ Ok (view x)
Found view (Err e) found = Fails e found

abbrev pub Keeps : {Y : Type 0} → Y → Y → RowFault → Type 0
Keeps old left (Memory _) = Unit {0}
Keeps old left (Wrong k reason) = left ≡ old

-- the value that was, and the value that is left
abbrev pub Leaves : {X Y : Type 0} → Y → Y → Result X RowFault → Result Y Mistake → Type 0
Leaves old left (Ok x) found = found ≡ Ok left
Leaves old left (Err e) found = Fails e found × Keeps old left e
