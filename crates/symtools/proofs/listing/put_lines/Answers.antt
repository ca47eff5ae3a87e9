use Rattle.std.proofs.Common.{rules, ◌++◌, ◌∷◌, [], if◌then◌else◌}
use Rattle.aout_core.specs.declared.symbol.Symbol.{Symbol}
use Rattle.symtools.specs.SymbolLines.{symbol_line}
use Rattle.aout_core.proofs.PutsLemmas.{front_before, front_after, front_of_row, writes_in_part}
use Rattle.symtools.proofs.listing.put_lines.Goals as goal

pub returns-in_err-put_heading : goal.returns-in_err-put_heading
returns-in_err-put_heading g c =
    let text = λ (s : Symbol). (if c.args.each_line then c.args.path.now ++ 58 ∷ [] else []) ++ symbol_line s in
    let entry = front_before _ _ _ (symbol_line c.symbol-item.result) c.in_err-put_heading.ensures.bytes in
    writes_in_part c.from_residual.ensures.0 (search rules) (search rules)
    (front_of_row text c.args.symbols.now c.loop-symbol.symbol-index c.symbol-item.result _ _ _ c.loop-symbol-test.true
    c.symbol-item.is c.loop-symbol.invariant.1 entry)

pub returns-in_err-line : goal.returns-in_err-line
returns-in_err-line g c =
    let text = λ (s : Symbol). (if c.args.each_line then c.args.path.now ++ 58 ∷ [] else []) ++ symbol_line s in
    let entry = front_after _ _ _ _ _ c.in_ok-put_heading.ensures.bytes c.in_err-line.ensures.bytes in
    writes_in_part c.from_residual-in_err-line.ensures.0 (search rules) (search rules)
    (front_of_row text c.args.symbols.now c.loop-symbol.symbol-index c.symbol-item.result _ _ _ c.loop-symbol-test.true
    c.symbol-item.is c.loop-symbol.invariant.1 entry)
