use Rattle.std.proofs.Common.{◌<◌, length, arith}
use Rattle.libv7.proofs.OriginLemmas.{records_more, text_fits}
use Rattle.libv7.proofs.places_call.records_for.Goals as goal

pub word_of-requires-clause-place : goal.word_of-requires-clause-place
word_of-requires-clause-place c =
    let lt : c.loop-text.text-index < length c.args.texts.now = omega (arith, c.loop-text-test.true, c.loop-text.auto.text-index-end) in
    text_fits c.args.program.now c.args.object.now c.args.texts.now c.loop-text.text-index c.requires.texts lt

pub loop-text-preserved : goal.loop-text-preserved
loop-text-preserved c =
    let lt : c.loop-text.text-index < length c.args.texts.now = omega (arith, c.loop-text-test.true, c.loop-text.auto.text-index-end) in
    rw (c.in_ok-push.ensures.items, c.place_record.ensures)
    (records_more c.args.program.now c.args.object.now c.args.texts.now c.loop-text.text-index c.loop-text.records.items c.in_ok-word.word lt
    c.loop-text.invariant.0 c.loop-text.invariant.1 c.in_ok-word.ensures)
