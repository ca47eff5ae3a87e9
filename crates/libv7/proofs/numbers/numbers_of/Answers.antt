use Rattle.std.proofs.Common.{◌≡◌, ℕ, ◌+◌, ◌-◌, List, drop, get_or, ap, subst, ◌∙◌, arith}
use Rattle.aout_core.specs.Contents.{Contents}
use Rattle.link_session.specs.Labelled.{Labelled, objects}
use Rattle.libv7.specs.internal.Numbered.{AreNumbers}
use Rattle.libv7.proofs.ObjectNumberLemmas.{object_put}
use Rattle.libv7.proofs.numbers.numbers_of.Goals as goal

pub loop-number-preserved : goal.loop-number-preserved
loop-number-preserved c =
    let es : List Labelled = c.args.entries.now in
    let n : ℕ = c.loop-number.number - 1 in
    let on : c.loop-number.number ≡ n + 1 = omega (arith, c.loop-number-test.true) in
    let e : Labelled = c.index-entries-number.result in
    let here : e ≡ get_or es n e = c.index-entries-number.is in
    let symbols : c.symbols.result.now ≡ (get_or es n e).object.symbols =
    c.symbols.ensures.value
    ∙ ap (λ (o : Contents). o.symbols) (c.file.ensures.value ∙ c.object.ensures ∙ ap (λ (x : Labelled). x.object) here) in
    record {
      inside = omega (arith, c.loop-number.invariant.inside);
      are =
          object_put c.args.definitions es n e c.symbols.result.now c.loop-number.numbers c.put_object.new.numbers
          (omega (arith, c.loop-number-test.true, c.loop-number.invariant.inside)) symbols
          (subst (λ (k : ℕ). AreNumbers c.args.definitions k (drop k (objects es)) c.loop-number.numbers) on c.loop-number.invariant.are)
          c.in_ok-put_object.ensures;
    }
