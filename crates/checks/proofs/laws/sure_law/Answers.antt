use Rattle.checks.proofs.SureLemmas.{sure_places, sure_words}
use Rattle.checks.proofs.laws.sure_law.Goals as goal

pub returns-clause-lines : goal.returns-clause-lines
returns-clause-lines c = sure_places

pub returns-clause-words : goal.returns-clause-words
returns-clause-words c = sure_words
