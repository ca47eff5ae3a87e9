use Rattle.std.proofs.Common.{Err, refl, arith, rules}
use Rattle.v7tools.proofs.program.perform.Goals as goal

pub returns-in-Err-clause-small : goal.returns-in-Err-clause-small
returns-in-Err-clause-small g c = omega arith

pub returns-in-Err-clause-run : goal.returns-in-Err-clause-run
returns-in-Err-clause-run g c = (Err c.in-Err.fault, c.in-Err.ensures.run, (refl, search rules))
