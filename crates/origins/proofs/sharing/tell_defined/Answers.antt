use Rattle.std.proofs.Common.{◌≡◌, ◌<◌, length, Some, get_or, ap, sym, ◌∙◌, arith}
use Rattle.std.proofs.{lemmas.Option.{slice_get-get_or}}
use Rattle.std.specs.Prelude.{slice_get}
use Rattle.origins.specs.Telling.{IsDefined}
use Rattle.origins.proofs.TellingLemmas.{tells_next, tells_refused, tells_symbol}
use Rattle.origins.proofs.sharing.tell_defined.Goals as goal

pub returns-then-not-tell_symbol : goal.returns-then-not-tell_symbol
returns-then-not-tell_symbol c =
    let named : slice_get c.args.names.now c.loop-i.i ≡ Some (get_or c.args.names.now c.loop-i.i 0) =
    slice_get-get_or c.args.names.now c.loop-i.i 0 (omega (arith, c.requires.numbers, c.loop-i-test.true)) in
    let is = slice_get-get_or c.args.symbols.now c.loop-i.i c.index-symbols-i.result c.loop-i-test.true ∙ ap Some (sym c.index-symbols-i.is) in
    tells_refused _ _ _ (IsDefined c.args.table.now c.args.names.now c.args.symbols.now) c.loop-i.i _ c.loop-i-test.true c.loop-i.invariant
    (tells_symbol _ _ c.args.table.now c.args.names.now c.args.symbols.now c.loop-i.i _ _ _ named is c.if-not-tell_symbol.ensures)

pub loop-i-preserved : goal.loop-i-preserved
loop-i-preserved c =
    let named : slice_get c.args.names.now c.loop-i.i ≡ Some (get_or c.args.names.now c.loop-i.i 0) =
    slice_get-get_or c.args.names.now c.loop-i.i 0 (omega (arith, c.requires.numbers, c.loop-i-test.true)) in
    let is = slice_get-get_or c.args.symbols.now c.loop-i.i c.index-symbols-i.result c.loop-i-test.true ∙ ap Some (sym c.index-symbols-i.is) in
    tells_next _ _ _ (IsDefined c.args.table.now c.args.names.now c.args.symbols.now) c.loop-i.i c.loop-i.invariant
    (tells_symbol _ _ c.args.table.now c.args.names.now c.args.symbols.now c.loop-i.i _ _ _ named is c.if-not-tell_symbol.ensures)
