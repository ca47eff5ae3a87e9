use Rattle.std.proofs.Common.{◌≡◌, map, take}
use Rattle.std.specs.List.{AllByRecursion}
use Rattle.libv7.specs.{declared.places_call.PlaceRecord.PlaceRecord, PlaceAnswers.IsRecord}
use Rattle.libv7.proofs.places_call.records_for.Given as goal

abbrev pub invariant-loop-text : goal.invariant-loop-text
invariant-loop-text l =
    (map (λ (r : PlaceRecord). r.text) l.records.items ≡ take l.text-index l.texts)
    × AllByRecursion (IsRecord l.program l.object) l.records.items
