use Rattle.gnu_objects.proofs.LawLemmas.{conversion}
use Rattle.gnu_objects.proofs.laws.conversion_law.Goals as goal

pub returns : goal.returns
returns c = conversion
