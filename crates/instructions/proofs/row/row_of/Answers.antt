use Rattle.std.proofs.Common.{◌<◌, length, arith}
use Rattle.instructions.specs.Rows.{row_of}
use Rattle.instructions.proofs.OrderLemmas.{table_holds, in_back, in_front}
use Rattle.instructions.proofs.row.row_of.Goals as goal

pub loop-left-init : goal.loop-left-init
unfolding row_of
loop-left-init c = table_holds c.args.word

pub loop-left-preserved-then-back-word : goal.loop-left-preserved-then-back-word
loop-left-preserved-then-back-word c =
    let some : 0 < length c.split_at.result.1.now = omega (arith, c.loop-left-test.true, c.split_at.ensures.back_len) in
    in_back c.args.word _ c.loop-left.left.now c.split_at.result.0.now c.split_at.result.1.now
    c.split_at.ensures.by_index.0 some c.loop-left.invariant c.if-back-word.true

pub loop-left-preserved : goal.loop-left-preserved
loop-left-preserved c =
    let some : 0 < length c.split_at.result.1.now = omega (arith, c.loop-left-test.true, c.split_at.ensures.back_len) in
    in_front c.args.word _ c.loop-left.left.now c.split_at.result.0.now c.split_at.result.1.now
    c.split_at.ensures.by_index.0 some c.loop-left.invariant c.if-back-word.false
