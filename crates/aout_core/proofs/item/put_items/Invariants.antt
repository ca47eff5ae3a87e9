use Rattle.std.proofs.Common.{◌≡◌, ◌/◌, ◌++◌, false}
use Rattle.std.specs.{List.flat_map, Slice.Iter.chunks_rest, Slice.Iter.chunks_size}
use Rattle.aout_core.proofs.ItemLemmas.{IsPutBut}
use Rattle.aout_core.proofs.item.put_items.Given as goal

-- the items so far went out, but for what waits
abbrev pub invariant-loop-few : goal.invariant-loop-few
invariant-loop-few g l =
    (goal.iterator-loop-few g).can_next l.few-iterator
    × (goal.iterator-loop-few g).is_finite l.few-iterator
    × (l.wire.has_failed ≡ false)
    × (chunks_size l.few-iterator ≡ 512 / g.T.Item.WIDTH)
    × IsPutBut g.T.Item.encoding (g.W.Write.contents l.initial.wire.device) (g.W.Write.contents l.wire.device) l.outgoing
    (l.initial.outgoing ++ flat_map g.T.Item.encoding l.items) (chunks_rest l.few-iterator)
