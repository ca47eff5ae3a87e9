use Rattle.laws.proofs.CleanProgramLemmas.{clean_objects}
use Rattle.laws.proofs.links.clean_law.Goals as goal

pub returns : goal.returns
returns c = clean_objects
