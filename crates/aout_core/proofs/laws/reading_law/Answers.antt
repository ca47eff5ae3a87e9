use Rattle.std.proofs.Common.{[], sym, ◌∙◌}
use Rattle.aout_core.proofs.EncodesLemmas.{decoded_sound, decoded_is_encoded, encoded_is_decoded}
use Rattle.aout_core.proofs.laws.reading_law.Goals as goal

pub returns-clause-encodes : goal.returns-clause-encodes
returns-clause-encodes c = λ bytes file bounded read. (decoded_sound bytes file bounded read, decoded_is_encoded bytes file bounded read)

pub returns-clause-one : goal.returns-clause-one
returns-clause-one c = λ bytes one other sound sound' encoded encoded'.
    let same = sym (encoded_is_decoded bytes [] one sound encoded) ∙ encoded_is_decoded bytes [] other sound' encoded' in cc

pub returns-clause-read : goal.returns-clause-read
returns-clause-read c = λ bytes rest file sound encoded. encoded_is_decoded bytes rest file sound encoded
