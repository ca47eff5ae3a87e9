use Rattle.std.proofs.Common.{refl}
use Rattle.link_session.proofs.undo.put_cell.Goals as goal

pub returns-then-index-cells : goal.returns-then-index-cells
returns-then-index-cells c = refl
