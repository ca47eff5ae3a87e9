use Rattle.std.proofs.Common.{◌≤◌, length, ap, arith}
use Rattle.libv7.specs.PlaceAnswers.{FitsWith}
use Rattle.libv7.proofs.OriginLemmas.{only_found, several, so_far_first, so_far_other, word_fits, word_refused}
use Rattle.libv7.proofs.places_call.only_word.Goals as goal

pub loop-word-preserved-then-not-may_be_at : goal.loop-word-preserved-then-not-may_be_at
loop-word-preserved-then-not-may_be_at c =
    so_far_other (FitsWith c.args.program.now c.args.object.now c.args.text) c.loop-word.word c.loop-word.found c.loop-word.invariant
    (word_refused c.args.program.now c.args.object.now c.args.text c.loop-word.word c.args.table.now c.may_be_at.new.copy
    c.ranges.text.fits c.requires.told (rw c.requires.names at c.if-not-may_be_at.ensures))

pub returns-in-Some : goal.returns-in-Some
returns-in-Some c =
    let long = ap length c.data_words.ensures.value in
    let le : c.loop-word.word ≤ length c.args.program.now.data_words = omega (arith, long, c.loop-word-test.true, c.loop-word.auto.word-end) in
    several (FitsWith c.args.program.now c.args.object.now c.args.text) c.loop-word.word c.in-Some.field-0 (rw c.in-Some.is at c.loop-word.invariant)
    (word_fits c.args.program.now c.args.object.now c.args.text c.loop-word.word c.args.table.now c.may_be_at.new.copy
    c.ranges.text.fits le c.requires.told (rw c.requires.names at c.if-not-may_be_at.ensures))

pub loop-word-preserved : goal.loop-word-preserved
loop-word-preserved c =
    let long = ap length c.data_words.ensures.value in
    let le : c.loop-word.word ≤ length c.args.program.now.data_words = omega (arith, long, c.loop-word-test.true, c.loop-word.auto.word-end) in
    so_far_first (FitsWith c.args.program.now c.args.object.now c.args.text) c.loop-word.word (rw c.in-None.is at c.loop-word.invariant)
    (word_fits c.args.program.now c.args.object.now c.args.text c.loop-word.word c.args.table.now c.may_be_at.new.copy
    c.ranges.text.fits le c.requires.told (rw c.requires.names at c.if-not-may_be_at.ensures))

pub returns : goal.returns
returns c =
    let long = ap length c.data_words.ensures.value in
    only_found (FitsWith c.args.program.now c.args.object.now c.args.text) c.loop-word.word c.loop-word.found c.requires.place.0 c.loop-word.invariant
    (λ j is. let le = is.0 in omega (arith, long, le, c.loop-word-test.false, c.loop-word.auto.word-end)) (c.requires.place.1, c.requires.place.2)
