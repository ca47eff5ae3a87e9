use Rattle.std.proofs.Common.{drop}
use Rattle.std.specs.List.{AllByRecursion}
use Rattle.aout_core.specs.Contents.{IsSymbol}
use Rattle.aout_core.proofs.laws.are_symbols.Given as goal

abbrev pub invariant-loop-symbol : goal.invariant-loop-symbol
invariant-loop-symbol l = AllByRecursion IsSymbol (drop l.symbol-index l.symbols) → AllByRecursion IsSymbol l.symbols
