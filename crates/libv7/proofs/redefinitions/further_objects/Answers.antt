use Rattle.std.proofs.Common.{◌≡◌, ℕ, ◌+◌, ◌-◌, ◌≤◌, List, ◌++◌, length, reverse, take, ap, sym, ◌∙◌, arith}
use Rattle.std.proofs.{lemmas.Grind.common_steps, lemmas.List.length-take-le, lemmas.List.take-take}
use Rattle.link_session.specs.Labelled.{Labelled, objects}
use Rattle.libv7.specs.FindingPlaces.{further_among, further_objects}
use Rattle.libv7.proofs.{CountLemmas.as_many, FurtherLemmas.one_less}
use Rattle.libv7.proofs.redefinitions.further_objects.Goals as goal

pub loop-number-preserved : goal.loop-number-preserved
loop-number-preserved c =
    let es : List Labelled = c.args.all.entries in
    let n : ℕ = c.loop-number.number - 1 in
    let old = c.loop-number.session in
    let new = c.withdraw_counting-times.new.session in
    let on : c.loop-number.number ≡ n + 1 = omega (arith, c.loop-number-test.true) in
    let here : n ≤ length old.entries = omega (arith, c.loop-number.invariant.count) in
    let left : new.entries ≡ take n es =
    c.withdraw_counting-times.ensures.entries
    ∙ ap (λ (k : ℕ). take (k - 1) old.entries) c.loop-number.invariant.count
    ∙ ap (λ (l : List Labelled). take n l) c.loop-number.invariant.left
    ∙ take-take n c.loop-number.number es (omega arith) in
    let forced = c.withdraw_counting-times.ensures.forced ∙ c.loop-number.invariant.forced in
    record {
      count =
          ap (λ (l : List Labelled). length l) (c.withdraw_counting-times.ensures.entries
          ∙ ap (λ (k : ℕ). take (k - 1) old.entries) c.loop-number.invariant.count)
          ∙ length-take-le n old.entries here;
      left = left;
      forced = forced;
      so_far =
          one_less c.args.all.forced es n c.withdraw_counting-times.result old new c.loop-number.numbers.items c.put_times.new.numbers.items
          (further_objects c.args.all.forced (objects es)) c.loop-number.invariant.forced
          (c.loop-number.invariant.left ∙ ap (λ (k : ℕ). take k es) on) forced left c.withdraw_counting-times.ensures.count
          (c.in_ok-put_times.ensures)
          (ap (λ (k : ℕ). further_among c.args.all.forced (objects es) k ++ reverse c.loop-number.numbers.items) (sym on)
          ∙ c.loop-number.invariant.so_far);
    }

pub returns-clause-as_many : goal.returns-clause-as_many
returns-clause-as_many c =
    let value : c.reverse.new.self.items ≡ further_objects c.args.all.forced (objects c.args.all.entries) = grind (arith, common_steps) in
    ap (λ (l : List ℕ). length l) value ∙ as_many c.args.all.forced (objects c.args.all.entries)
