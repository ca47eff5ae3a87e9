-- Items that go out or come in, by the device's bytes before and after.
use Rattle.std.specs.Prelude.{ℕ, List, ◌++◌, Option, Result, Vec}
use Rattle.std.specs.{List.flat_map, declared.alloc.Global.Global, Io.KnownBytes.prepend_known}
use Rattle.aout_core.specs.internal.Blocks.{Awaited, awaited, EndsBefore, PutsBut}
use Rattle.aout_core.specs.{declared.file.ReadFault.ReadFault, internal.Rows.TakesRow}

-- the end came before all that was awaited, or the device failed
abbrev pub EndsAwaiting : ReadFault → Awaited → Option (List ℕ) → Option (List ℕ) → Type 0
EndsAwaiting fault old before after = EndsBefore fault (prepend_known old.waiting before) after (awaited old)

-- so many items were taken, of what remains to be read on the device
abbrev pub TakesAll : {A D : Type 0} → (List ℕ → A) → ℕ → ℕ → (D → Option (List ℕ)) → Awaited → D → Awaited → D →
    Vec A Global → Vec A Global → Type 0
TakesAll item_in width count remaining old before new after items more =
    TakesRow item_in width count old (remaining before) new (remaining after) items.items more.items

-- the items of both lists went out but what waits, or on a fault a prefix of them
abbrev pub PutsBoth : {A T E : Type 0} → (A → List ℕ) → Result T E → Option (List ℕ) → Option (List ℕ) → List ℕ →
    List ℕ → List A → List A → Type 0
PutsBoth encoding result before after old new first second =
    PutsBut result before after new (old ++ (flat_map encoding first ++ flat_map encoding second))
