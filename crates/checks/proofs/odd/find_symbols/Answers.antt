use Rattle.std.proofs.{Common.append_assoc, lemmas.List.drop_more}
use Rattle.std.specs.{BTreeMap.get, Cmp.Lexicographic.slice_cmp, Ordering.nat_cmp}
use Rattle.aout_core.specs.WellFormed.{is_external}
use Rattle.checks.proofs.SymbolLemmas.{noted_more}
use Rattle.checks.proofs.odd.find_symbols.Goals as goal

pub loop-number-preserved : goal.loop-number-preserved
loop-number-preserved c =
    let symbols = c.symbols-symbols.result.now in
    let symbol = c.index-symbols-number.result in (
      λ whole.
          let put = c.find_symbol.ensures whole in
          let so_far = c.loop-number.invariant.0 put.0 in
          let left = drop_more symbols c.loop-number.number symbol c.loop-number-test.true in
          (so_far.0, rw (put.1, append_assoc c.loop-number.findings.found) (rw (left, ← c.index-symbols-number.is) at so_far.1)),
      λ other. noted_more is_external symbols c.loop-number.number symbol other (get (slice_cmp nat_cmp) c.loop-number.seen symbol.name)
          (get (slice_cmp nat_cmp) c.loop-number.seen other) (get (slice_cmp nat_cmp) c.first_alike.new.seen other)
          c.is_external.result c.loop-number-test.true c.index-symbols-number.is c.is_external.ensures
          (c.in-Ok-first_alike.ensures.noted other) (c.loop-number.invariant.1 symbol.name) (c.loop-number.invariant.1 other),
    )
