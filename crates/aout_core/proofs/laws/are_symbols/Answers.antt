use Rattle.std.proofs.{Common.subst, Common.sym, Common.List, lemmas.List.drop_more}
use Rattle.std.specs.List.{AllByRecursion}
use Rattle.aout_core.specs.{declared.symbol.Symbol.Symbol, Contents.IsSymbol}
use Rattle.aout_core.proofs.laws.are_symbols.Goals as goal

pub loop-symbol-preserved : goal.loop-symbol-preserved
loop-symbol-preserved c = λ rest.
    let P : List Symbol → Type 0 = λ ss. AllByRecursion IsSymbol ss in
    c.loop-symbol.invariant (subst P (sym (drop_more c.args.symbols.now c.loop-symbol.symbol-index c.symbol-item.result
    c.loop-symbol-test.true)) (subst IsSymbol c.symbol-item.is c.is_symbol.ensures, rest))
