use Rattle.std.proofs.Common.{arith}
use Rattle.libv7.proofs.OriginLemmas.{first_found, first_passed}
use Rattle.libv7.proofs.places_call.first_number.Goals as goal

pub returns-then-eq-clause-value : goal.returns-then-eq-clause-value
returns-then-eq-clause-value c =
    let here = first_found c.args.symbols.now c.loop-i.i c.index-symbols-i.result c.args.name.now c.loop-i-test.true c.index-symbols-i.is c.if-eq.ensures in
    omega (arith, here, c.loop-i.invariant)

pub loop-i-preserved : goal.loop-i-preserved
loop-i-preserved c =
    let passed = first_passed c.args.symbols.now c.loop-i.i c.index-symbols-i.result c.args.name.now c.loop-i-test.true c.index-symbols-i.is c.if-eq.ensures in
    omega (arith, passed, c.loop-i.invariant)
