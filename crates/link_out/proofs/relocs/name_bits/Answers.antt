use Rattle.std.proofs.Common.{rules}
use Rattle.link_out.proofs.relocs.name_bits.Goals as goal

pub returns-in-Some-clause-value : goal.returns-in-Some-clause-value
returns-in-Some-clause-value c = search rules
