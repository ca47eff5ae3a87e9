use Rattle.std.proofs.{Common.arith, lemmas.Grind.common_steps}
use Rattle.link_session.specs.declared.cell.Cell.{Cell}
use Rattle.link_out.specs.internal.FromCells.{target_too_large}
use Rattle.link_out.proofs.CellRelocLemmas.{none_at}
use Rattle.link_out.proofs.relocs.relocs_of_cells.Goals as goal

pub reloc_of_cell-requires : goal.reloc_of_cell-requires
reloc_of_cell-requires c =
    none_at (λ (x : Cell). target_too_large c.args.finals.now c.args.locals x.target) c.args.cells.now c.loop-cell.cell-index _
    c.loop-cell-test.true c.requires

pub loop-cell-preserved : goal.loop-cell-preserved
loop-cell-preserved c = grind (arith, common_steps)

pub returns : goal.returns
returns c = grind (arith, common_steps)
