use Rattle.std.proofs.{Common.{arith, rules, ℕ, ◌++◌, List, get_or, ap, sym, ◌∙◌}, lemmas.Grind.common_steps}
use Rattle.aout_core.proofs.PutsLemmas.{front_of_row, writes_in_part}
use Rattle.link_out.proofs.linked.put_names.Goals as goal

pub returns-in_err-put_both : goal.returns-in_err-put_both
returns-in_err-put_both g c =
    let f = λ (n : List ℕ). n ++ c.args.text.now in
    let i = c.loop-name.name-index in
    let names = c.args.names.now in
    let old = g.W.Write.contents c.args.out.now.device in
    let new = g.W.Write.contents c.put_both.new.self.device in
    let name = c.as_bytes.result.now in
    let is = c.as_bytes.ensures.value ∙ c.name-item.is ∙ ap (λ (d : List ℕ). get_or names i d) (sym c.as_bytes.ensures.value) in
    writes_in_part c.from_residual-in_err-put_both.ensures.0 (search rules) (search rules)
    (front_of_row f names i name old (g.W.Write.contents c.loop-name.out.device) new c.loop-name-test.true is
    c.loop-name.invariant.gone c.in_err-put_both.ensures.bytes)

pub loop-name-preserved : goal.loop-name-preserved
loop-name-preserved g c = grind (arith, common_steps)

pub returns : goal.returns
returns g c = grind (arith, common_steps)
