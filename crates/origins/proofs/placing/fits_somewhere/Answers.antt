use Rattle.std.proofs.Common.{◌≡◌, ◌*◌, ◌/◌, ◌<◌, ◌∙◌, Some}
use Rattle.std.proofs.{lemmas.Option.{slice_get-get_or}}
use Rattle.std.specs.Prelude.{slice_get}
use Rattle.std.proofs.Common.{false, below_more, length, ap, arith, rules}
use Rattle.std.specs.Prelude.{IsTrue}
use Rattle.origins.proofs.PlaceLemmas.{IsFresh, no_text, no_data, both_there, values_told}
use Rattle.origins.proofs.placing.fits_somewhere.Goals as goal

not_true : IsTrue false → ⊥
not_true = search rules

-- a word that a link leaves alone is another
pub returns-then-not-may_be_there : goal.returns-then-not-may_be_there
returns-then-not-may_be_there c =
    let nowhere = rw (c.text_words-words.ensures.value, c.text_reloc-relocs.ensures.value, c.text_words-there.ensures.value) at c.if-not-may_be_there.ensures (search rules) in (
      (λ t. absurd (not_true t)),
      (λ f. absurd (nowhere _ _ _ (values_told _ _ _ _ _ c.ranges.text.fits f.2.1).0.1)),
    )

pub returns-then-not-tell_text : goal.returns-then-not-tell_text
returns-then-not-tell_text c =
    let fresh : IsFresh c.forget.new.table = record { none = c.forget.ensures } in (
      (λ t. absurd (not_true t)),
      (λ f. absurd (no_text _ _ _ _ _ _ f.2.0 c.ranges.text.fits fresh (rw c.requires.numbers at c.if-not-tell_text.ensures.answer) f.2.1)),
    )

pub returns-then-may_have_data : goal.returns-then-may_have_data
returns-then-may_have_data c =
    let fresh : IsFresh c.forget.new.table = record { none = c.forget.ensures } in (
      (λ t. (
        c.loop-k.k,
        let long = ap length c.data_words.ensures.value in omega (arith, long),
        both_there _ _ _ _ _ _ _ c.ranges.text.fits fresh
            (rw c.requires.numbers at c.if-not-tell_text.ensures.answer) (rw c.requires.numbers at c.if-may_have_data.ensures),
      )),
      (λ f. search rules),
    )

pub loop-k-preserved : goal.loop-k-preserved
loop-k-preserved c =
    below_more _ _ c.loop-k.invariant (λ s agrees is. absurd (let no = (c.if-may_have_data.ensures.kept s agrees is).0 in cc))

pub returns : goal.returns
returns c =
    let fresh : IsFresh c.forget.new.table = record { none = c.forget.ensures } in (
      (λ t. absurd (not_true t)),
      (λ f. absurd (no_data _ _ _ _ _ _ f.2.0 c.ranges.text.fits fresh (rw c.requires.numbers at c.if-not-tell_text.ensures.answer)
          (rw c.requires.numbers at (c.loop-k.invariant f.0 (let long = ap length c.data_words.ensures.value in omega (arith, f.1, long)))) f.2.1)),
    )

-- a byte that is no candidate
pub loop-k-preserved-then-not-candidates-k : goal.loop-k-preserved-then-not-candidates-k
loop-k-preserved-then-not-candidates-k c =
    let half : 2 * c.loop-k.k / 2 ≡ c.loop-k.k = omega arith in
    let inside : c.loop-k.k < length c.args.candidates.now = let long = ap length c.data_words.ensures.value in omega (arith, long, c.requires.candidates.long) in
    let is_none : slice_get c.args.candidates.now c.loop-k.k ≡ Some false =
    slice_get-get_or c.args.candidates.now c.loop-k.k false inside ∙ ap Some c.if-not-candidates-k.true in
    below_more _ _ c.loop-k.invariant (λ s agrees is. c.requires.candidates.none c.loop-k.k is_none c.args.firsts.now _ s (rw half at is.1))
