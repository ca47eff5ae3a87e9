use Rattle.std.proofs.Common.{◌≡◌, take, length}
use Rattle.aout_core.specs.internal.Rows.{row_in}
use Rattle.aout_core.proofs.item.fill_items.Given as goal

-- the items so far
abbrev pub invariant-loop-n : goal.invariant-loop-n
invariant-loop-n g l = record {
  many : length l.items ≡ length l.initial.items;
  read : take l.n l.items ≡ row_in g.T.Item.item_in g.T.Item.WIDTH l.n l.bytes;
}
