use Rattle.std.proofs.Common.{refl}
use Rattle.std.specs.List.{flat_map}
use Rattle.aout_core.proofs.OutgoingLemmas.{broke_then, puts_then}
use Rattle.aout_core.proofs.item.put_both.Goals as goal

pub returns-in_err-put_items-clause-bytes : goal.returns-in_err-put_items-clause-bytes
returns-in_err-put_items-clause-bytes g c =
    broke_then c.from_residual.result _ _ c.args.outgoing.now _ (flat_map g.T.Item.encoding c.args.first.now)
    (flat_map g.T.Item.encoding c.args.second.now) _ refl c.from_residual.ensures.0 c.in_err-put_items.ensures.bytes

pub returns-clause-bytes : goal.returns-clause-bytes
returns-clause-bytes g c =
    puts_then c.put_items-2.result _ _ _ c.args.outgoing.now c.put_items.new.outgoing c.put_items-2.new.outgoing
    (flat_map g.T.Item.encoding c.args.first.now) (flat_map g.T.Item.encoding c.args.second.now) _ refl
    c.in_ok-put_items.ensures.bytes c.put_items-2.ensures.bytes
