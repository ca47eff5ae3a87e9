use Rattle.laws.proofs.UndoLemmas.{undo_law}
use Rattle.laws.proofs.commands.undo_law.Goals as goal

pub returns : goal.returns
returns g c = undo_law _ _
