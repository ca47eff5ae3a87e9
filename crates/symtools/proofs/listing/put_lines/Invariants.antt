use Rattle.std.proofs.Common.{◌≡◌, false, take, if◌then◌else◌, [], ◌∷◌, ◌++◌}
use Rattle.std.specs.{List.flat_map, Io.KnownBytes.Appends}
use Rattle.symtools.specs.SymbolLines.{symbol_line}
use Rattle.symtools.proofs.listing.put_lines.Given as goal

abbrev pub invariant-loop-symbol : goal.invariant-loop-symbol
invariant-loop-symbol g l =
    (l.out.has_failed ≡ false)
    × Appends (g.W.Write.contents l.initial.out.device) (g.W.Write.contents l.out.device)
    (flat_map (λ s. (if l.each_line then l.path ++ 58 ∷ [] else []) ++ symbol_line s) (take l.symbol-index l.symbols))
