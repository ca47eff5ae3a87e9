use Rattle.std.proofs.Common.{◌≡◌, ◌++◌, drop}
use Rattle.std.specs.Prelude.{map}
use Rattle.link_out.specs.internal.FromCells.{reloc_of_cell}
use Rattle.link_out.proofs.relocs.relocs_of_cells.Given as goal

-- the words so far, and those of the cells that are left
abbrev pub invariant-loop-cell : goal.invariant-loop-cell
invariant-loop-cell l =
    map (reloc_of_cell l.finals l.locals) l.cells
    ≡ l.relocs.items ++ map (reloc_of_cell l.finals l.locals) (drop l.cell-index l.cells)
