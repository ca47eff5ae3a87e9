use Rattle.std.proofs.Common.{◌≡◌, ◌+◌, ◌-◌, suc, sym, ◌∙◌, arith}
use Rattle.disassemblies.proofs.ListedLemmas.{unmarked}
use Rattle.disassemblies.proofs.listed.any_marked.Goals as goal

pub loop-at-preserved : goal.loop-at-preserved
loop-at-preserved c =
    let end = c.args.place + c.args.count in
    let left : end - c.loop-at.at ≡ suc (end - (c.loop-at.at + 1)) = omega (arith, c.loop-at-test.true) in (
      sym (unmarked c.args.marks.now c.loop-at.at (end - c.loop-at.at) (end - (c.loop-at.at + 1)) c.if-marks-at.false left)
          ∙ c.loop-at.invariant.0,
      omega (arith, c.loop-at-test.true),
      c.loop-at.invariant.2,
    )
