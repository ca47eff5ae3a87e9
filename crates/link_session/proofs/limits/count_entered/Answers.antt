use Rattle.std.proofs.{Common.{◌≡◌, [], length, ℕ, List, ap, ◌∙◌, arith}, lemmas.Grind.common_steps}
use Rattle.std.specs.Map.{keys_of}
use Rattle.link_session.specs.internal.NewNames.{with_all_new}
use Rattle.link_session.proofs.NewNameLemmas.{length-all_new, length-keys}
use Rattle.link_session.proofs.limits.count_entered.Goals as goal

pub loop-symbol-init : goal.loop-symbol-init
loop-symbol-init c = grind (arith, common_steps)

pub enter_new-requires : goal.enter_new-requires
enter_new-requires c = grind (arith, common_steps)

pub loop-symbol-preserved : goal.loop-symbol-preserved
loop-symbol-preserved c = grind (arith, common_steps)

pub returns : goal.returns
returns c =
    let gathered : keys_of c.loop-symbol.fresh.entries
    ≡ with_all_new (keys_of c.args.externals.now.entries) [] c.args.symbols.now = grind (arith, common_steps) in
    c.len.ensures.len ∙ length-keys c.loop-symbol.fresh.entries ∙ ap (λ (l : List (List ℕ)). length l) gathered
    ∙ length-all_new (keys_of c.args.externals.now.entries) c.args.symbols.now
