use Rattle.std.proofs.Common.{◌≡◌, ◌+◌, ◌≤◌, drop}
use Rattle.listings.specs.Columns.{first_stray, stray_from}
use Rattle.listings.proofs.columns.first_stray.Given as goal

abbrev pub invariant-loop-index : goal.invariant-loop-index
invariant-loop-index l =
    (l.line ≤ l.index + 1) × (l.column ≤ l.index + 1) × (stray_from l.line l.column (drop l.index l.text) ≡ first_stray l.text)
