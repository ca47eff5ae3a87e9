use Rattle.std.proofs.Common.{rules}
use Rattle.symtools.proofs.symbol_line.letter.Goals as goal

pub returns-then-is_external : goal.returns-then-is_external
returns-then-is_external c = search rules
