use Rattle.std.proofs.Common.{rules}
use Rattle.aout_core.proofs.{OutgoingLemmas.broke_off, ItemLemmas.few_broke, ItemLemmas.few_put}
use Rattle.aout_core.proofs.item.put_items.Goals as goal

pub loop-few-preserved : goal.loop-few-preserved
loop-few-preserved g c = (
  search rules,
  tt,
  search rules,
  search rules,
  few_put g.T.Item.encoding _ _ _ c.loop-few.outgoing c.put_few.new.outgoing _ _ c.in-Some.few.now _
      c.in-Some.ensures.steps.1.0 c.loop-few.invariant.4 c.in_ok-put_few.ensures.bytes,
)

pub returns-in_err-put_few-clause-bytes : goal.returns-in_err-put_few-clause-bytes
returns-in_err-put_few-clause-bytes g c =
    broke_off c.from_residual.result _ _ _ _ c.from_residual.ensures.0
    (few_broke g.T.Item.encoding _ _ _ c.loop-few.outgoing _ _ c.in-Some.few.now _ c.in-Some.ensures.steps.1.0
    c.loop-few.invariant.4 c.in_err-put_few.ensures.bytes)
