use Rattle.std.specs.{BTreeMap.get, Cmp.Lexicographic.slice_cmp, Ordering.nat_cmp}
use Rattle.checks.specs.Odd.{is_placed_local}
use Rattle.checks.proofs.SymbolLemmas.{noted_more}
use Rattle.checks.proofs.odd.local_names.Goals as goal

pub loop-number-preserved : goal.loop-number-preserved
loop-number-preserved c =
    let symbol = c.index-symbols-number.result in
    λ name. noted_more is_placed_local c.args.symbols.now c.loop-number.number symbol name
    (get (slice_cmp nat_cmp) c.loop-number.locals symbol.name)
    (get (slice_cmp nat_cmp) c.loop-number.locals name) (get (slice_cmp nat_cmp) c.first_alike.new.seen name)
    c.is_placed_local.result c.loop-number-test.true c.index-symbols-number.is c.is_placed_local.ensures
    (c.in_ok-first_alike.ensures.noted name) (c.loop-number.invariant symbol.name) (c.loop-number.invariant name)
