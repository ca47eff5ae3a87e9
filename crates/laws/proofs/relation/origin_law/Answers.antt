use Rattle.laws.proofs.OriginLemmas.{all_fit, each_found}
use Rattle.laws.proofs.relation.origin_law.Goals as goal

pub returns-clause-fit : goal.returns-clause-fit
returns-clause-fit c = all_fit

pub returns-clause-found : goal.returns-clause-found
returns-clause-found c = each_found
