use Rattle.std.proofs.{Common.append_assoc, lemmas.List.drop_more}
use Rattle.checks.proofs.odd.find_words.Goals as goal

pub loop-number-preserved : goal.loop-number-preserved
loop-number-preserved c = λ whole.
    let put = c.find_word.ensures whole in
    let so_far = c.loop-number.invariant put.0 in (
      so_far.0,
      rw (put.1, append_assoc) (rw (drop_more c.words_of-words.result.now c.loop-number.number 0 c.loop-number-test.true) at so_far.1),
    )
