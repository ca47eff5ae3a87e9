use Rattle.std.proofs.Common.{◌≡◌, ◌++◌, drop, false}
use Rattle.libv7.specs.{Items.{each, each_from, named}, SessionJson.cell_item}
use Rattle.libv7.proofs.session_json.put_cells.Given as goal

-- what is there, with the items that are left, makes the whole
abbrev pub invariant-loop-index : goal.invariant-loop-index
invariant-loop-index l =
    l.text.is_cut ≡ false → (l.initial.text.is_cut ≡ false)
    × (l.initial.text.bytes ++ each (cell_item (named l.session)) l.cells
    ≡ l.text.bytes ++ each_from (cell_item (named l.session)) l.index (drop l.index l.cells))
