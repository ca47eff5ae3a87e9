use Rattle.std.proofs.Common.{rules, ◌≡◌, ◌<◌, Some, length, get_or, take, refl, sym, subst, ◌∙◌}
use Rattle.std.proofs.lemmas.{List.take_all, List.take_more, Option.slice_get_read}
use Rattle.std.specs.Prelude.{slice_get}
use Rattle.v7_origin.specs.{Whole.AreChosen, internal.Lists.IsAdded}
use Rattle.v7_origin.proofs.LinkLemmas.{chosen_added}
use Rattle.v7_origin.proofs.linking.session_of.Goals as goal

pub loop-number-preserved : goal.loop-number-preserved
loop-number-preserved c =
    let order = c.args.order.now in let i = c.loop-number.number-index in let n = get_or order i 0 in
    let sources = c.args.sources.now in let source = c.in-Some.source.now in
    let within : n < length sources = search rules in
    let is : source ≡ get_or sources n source = search rules in
    let at : slice_get sources n ≡ Some source = slice_get_read sources (length sources) n source refl within is in
    let added : IsAdded source c.loop-number.session c.add.new.session = search rules in (
      added.0 ∙ c.loop-number.invariant.0,
      subst (λ ns. AreChosen sources ns c.add.new.session.entries) (sym (take_more order i 0 c.loop-number-test.true))
          (chosen_added sources (take i order) c.loop-number.session c.add.new.session n source c.loop-number.invariant.1 at added),
    )

pub returns : goal.returns
returns c =
    let order = c.args.order.now in
    let all = take_all c.loop-number.number-index order c.loop-number-test.false in (
      c.loop-number.invariant.0,
      subst (λ ns. AreChosen c.args.sources.now ns c.loop-number.session.entries) all c.loop-number.invariant.1,
    )
