use Rattle.checks.proofs.ReachLemmas.{reached_law}
use Rattle.checks.proofs.laws.reached_law.Goals as goal

pub returns : goal.returns
returns c = reached_law
