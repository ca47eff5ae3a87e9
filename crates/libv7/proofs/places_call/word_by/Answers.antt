use Rattle.std.proofs.Common.{◌+◌, length}
use Rattle.libv7.proofs.OriginLemmas.{text_shown}
use Rattle.libv7.proofs.places_call.word_by.Goals as goal

pub only_word-requires-clause-told : goal.only_word-requires-clause-told
only_word-requires-clause-told c =
    text_shown c.args.program.now c.args.object.now c.args.text (3 + length c.args.names.now) c.tell_text.result c.args.table.now c.tell_text.new.table
    c.ranges.text.fits c.requires.empty c.requires.place (rw c.requires.names at c.tell_text.ensures)
