use Rattle.laws.proofs.{LinkedTheorem.linked_exactly, LinkedTheorem.linked_once, RefusalLemmas.refused_exactly}
use Rattle.laws.proofs.relation.linking_law.Goals as goal

pub returns-clause-exactly : goal.returns-clause-exactly
returns-clause-exactly c = linked_exactly

pub returns-clause-once : goal.returns-clause-once
returns-clause-once c = linked_once

pub returns-clause-refused : goal.returns-clause-refused
returns-clause-refused c = refused_exactly
