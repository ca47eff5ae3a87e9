use Rattle.std.proofs.Common.{take}
use Rattle.libv7.specs.internal.Numbered.{PutsObject}
use Rattle.libv7.proofs.numbers.put_object.Given as goal

abbrev pub invariant-loop-symbol : goal.invariant-loop-symbol
invariant-loop-symbol l = PutsObject l.definitions l.number (take l.symbol-index l.symbols) l.initial.numbers l.numbers
