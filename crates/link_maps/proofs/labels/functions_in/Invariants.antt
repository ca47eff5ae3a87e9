use Rattle.std.proofs.Common.{◌≡◌, take, filter}
use Rattle.link_maps.specs.References.{is_function}
use Rattle.link_maps.proofs.labels.functions_in.Given as goal

abbrev pub invariant-loop-symbol : goal.invariant-loop-symbol
invariant-loop-symbol l = l.functions.items ≡ filter is_function (take l.symbol-index l.symbols)
