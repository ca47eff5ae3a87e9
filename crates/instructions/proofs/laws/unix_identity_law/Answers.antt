use Rattle.instructions.proofs.UnixLemmas.{unix_identity}
use Rattle.instructions.proofs.laws.unix_identity_law.Goals as goal

pub returns : goal.returns
returns c = unix_identity
