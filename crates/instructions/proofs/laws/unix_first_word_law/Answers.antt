use Rattle.instructions.proofs.UnixLemmas.{unix_first_word}
use Rattle.instructions.proofs.laws.unix_first_word_law.Goals as goal

pub returns : goal.returns
returns c = unix_first_word
