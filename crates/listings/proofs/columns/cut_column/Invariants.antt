use Rattle.std.proofs.Common.{◌≡◌, ◌++◌, take, drop}
use Rattle.listings.specs.Columns.{column, after_column}
use Rattle.listings.proofs.columns.cut_column.Given as goal

abbrev pub invariant-loop-index : goal.invariant-loop-index
invariant-loop-index l =
    (take l.index l.line ++ column (drop l.index l.line) ≡ column l.line)
    × (after_column (drop l.index l.line) ≡ after_column l.line)
