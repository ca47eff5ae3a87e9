use Rattle.std.proofs.Common.{rules}
use Rattle.link_out.proofs.relocs.target_bits.Goals as goal

pub returns-in-External-clause-value : goal.returns-in-External-clause-value
returns-in-External-clause-value c = search rules

pub returns-in-TextSeg-clause-value : goal.returns-in-TextSeg-clause-value
returns-in-TextSeg-clause-value c = search rules
