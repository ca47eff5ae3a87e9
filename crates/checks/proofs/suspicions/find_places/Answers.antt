use Rattle.std.proofs.{Common.append_assoc, lemmas.List.drop_more}
use Rattle.checks.proofs.suspicions.find_places.Goals as goal

pub loop-place-preserved : goal.loop-place-preserved
loop-place-preserved c = λ whole.
    let put = c.find_place.ensures whole in
    let so_far = c.loop-place.invariant put.0 in (
      so_far.0,
      rw (put.1, append_assoc) (rw (drop_more c.text_words-words.result.now c.loop-place.place 0 c.loop-place-test.true) at so_far.1),
    )
