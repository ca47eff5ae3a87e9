use Rattle.std.proofs.{Common.arith, lemmas.Grind.common_steps}
use Rattle.aout_core.proofs.reader.read_header.Goals as goal

pub returns-then-not-is_magic-clause-value : goal.returns-then-not-is_magic-clause-value
returns-then-not-is_magic-clause-value g c = grind (arith, common_steps)

pub returns-then-not-has_whole_sizes-clause-value :
    goal.returns-then-not-has_whole_sizes-clause-value
returns-then-not-has_whole_sizes-clause-value g c = grind (arith, common_steps)

pub returns-clause-value : goal.returns-clause-value
returns-clause-value g c = grind (arith, common_steps)
