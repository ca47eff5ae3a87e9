use Rattle.std.proofs.Common.{rules}
use Rattle.aout_core.proofs.WordLemmas.{is_read-words}
use Rattle.aout_core.proofs.word.take_words.Goals as goal

pub returns : goal.returns
returns c = is_read-words c.args.bytes.now c.read_u16_into.new.dst (search rules) c.read_u16_into.ensures
