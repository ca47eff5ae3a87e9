use Rattle.std.proofs.Common.{inr}
use Rattle.libv7.proofs.map_call.map_parts.Goals as goal

pub returns-in-Err-clause-memory : goal.returns-in-Err-clause-memory
returns-in-Err-clause-memory c = λ memory. inr (c.in-Err.ensures.memory memory)
