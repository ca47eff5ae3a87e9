use Rattle.std.proofs.Common.{◌∙◌}
use Rattle.libv7.proofs.OriginLemmas.{empty_slots}
use Rattle.libv7.proofs.places_call.word_of.Goals as goal

pub word_by-requires-clause-slots : goal.word_by-requires-clause-slots
word_by-requires-clause-slots c =
    empty_slots c.args.object.now c.args.names.now c.deref_mut.result.now c.requires.names (c.deref_mut.ensures.value ∙ c.in_ok-table.ensures)
