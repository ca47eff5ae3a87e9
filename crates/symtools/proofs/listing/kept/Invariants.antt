use Rattle.std.proofs.Common.{◌≡◌, take, filter}
use Rattle.symtools.specs.NmLists.{is_shown}
use Rattle.symtools.proofs.listing.kept.Given as goal

abbrev pub invariant-loop-symbol : goal.invariant-loop-symbol
invariant-loop-symbol l = l.list.items ≡ filter (is_shown l.options) (take l.symbol-index l.table)
