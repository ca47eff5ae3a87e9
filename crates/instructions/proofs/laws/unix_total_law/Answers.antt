use Rattle.instructions.proofs.UnixLemmas.{unix_total}
use Rattle.instructions.proofs.laws.unix_total_law.Goals as goal

pub returns : goal.returns
returns c = unix_total
