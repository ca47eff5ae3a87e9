use Rattle.std.proofs.Common.{◌≡◌, ◌+◌, ◌-◌, ◌≤◌, false, vec_len, vec_capacity}
use Rattle.aout_core.specs.internal.Rows.{TakesRow}
use Rattle.aout_core.proofs.item.take_items.Given as goal

-- all items but those that are left were taken, and there is room for these
abbrev pub invariant-loop-left : goal.invariant-loop-left
invariant-loop-left g l =
    (l.wire.has_failed ≡ false)
    × TakesRow g.T.Item.item_in g.T.Item.WIDTH (l.count - l.left) l.initial.incoming (g.R.Read.remaining l.initial.wire.device)
    l.incoming (g.R.Read.remaining l.wire.device) l.initial.items.items l.items.items
    × (vec_len l.items + l.left ≤ vec_capacity l.items)
    × (l.left ≤ l.count)

abbrev pub decreases-loop-left : goal.decreases-loop-left
decreases-loop-left g l = l.left
