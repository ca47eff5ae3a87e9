use Rattle.laws.proofs.BuildLemmas.{builds_law, once_law, elsewhere}
use Rattle.laws.proofs.commands.build_law.Goals as goal

pub returns-clause-builds : goal.returns-clause-builds
returns-clause-builds g c = builds_law _ _

pub returns-clause-once : goal.returns-clause-once
returns-clause-once g c = once_law _ _

pub returns-clause-elsewhere : goal.returns-clause-elsewhere
returns-clause-elsewhere g c = elsewhere _ _
