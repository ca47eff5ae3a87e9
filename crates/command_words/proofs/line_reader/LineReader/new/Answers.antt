use Rattle.std.proofs.Common.{rules, refl}
use Rattle.command_words.proofs.line_reader.LineReader.new.Goals as goal

pub invariant_of-result : goal.invariant_of-result
invariant_of-result g c = (search rules, search rules, tt)

pub returns : goal.returns
returns g c = rw (c.new.ensures.wire, c.new.ensures.held) refl
