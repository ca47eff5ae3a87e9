use Rattle.aout_core.proofs.EncodingLemmas.{decode-encoding}
use Rattle.aout_core.proofs.laws.spelling_law.Goals as goal

pub returns : goal.returns
returns c = decode-encoding
