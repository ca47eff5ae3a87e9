use Rattle.std.proofs.Common.{refl}
use Rattle.instructions.proofs.CallLemmas.{each_made_by_sys}
use Rattle.instructions.proofs.laws.call_table_law.Goals as goal

pub returns-clause-same : goal.returns-clause-same
returns-clause-same c = refl

pub returns-clause-sys : goal.returns-clause-sys
returns-clause-sys c = each_made_by_sys
