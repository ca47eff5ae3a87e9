use Rattle.std.proofs.Common.{refl}
use Rattle.link_out.proofs.StripLemmas as strip
use Rattle.link_out.proofs.laws.strip_law.Goals as goal

pub returns-clause-link : goal.returns-clause-link
returns-clause-link c = strip.strip_law

pub returns-clause-once : goal.returns-clause-once
returns-clause-once c = λ file. refl
