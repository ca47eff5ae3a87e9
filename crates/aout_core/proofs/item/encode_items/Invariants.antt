use Rattle.std.proofs.Common.{◌≡◌, ◌*◌, take}
use Rattle.std.specs.List.{flat_map}
use Rattle.aout_core.proofs.item.encode_items.Given as goal

-- the bytes in front are those of the items so far
abbrev pub invariant-loop-item : goal.invariant-loop-item
invariant-loop-item g l =
    (l.at ≡ g.T.Item.WIDTH * l.item-index) × (take l.at l.bytes ≡ flat_map g.T.Item.encoding (take l.item-index l.items))
