use Rattle.std.proofs.Common.{rules, refl, inl, inr}
use Rattle.v7_explain.proofs.map.map_link.Goals as goal

pub returns-in_err-said : goal.returns-in_err-said
returns-in_err-said g c = inr (inl (c.in_err-said.field-0.0, c.in_err-said.ensures, search rules))

pub returns-then-said-ne0 : goal.returns-then-said-ne0
returns-then-said-ne0 g c = inr (inr (c.in_ok-said.said, _, c.in_ok-said.ensures, (refl, inr (search rules, search rules))))

pub returns-in_err-map_answer : goal.returns-in_err-map_answer
returns-in_err-map_answer g c = inr (inr (c.in_ok-said.said, _, c.in_ok-said.ensures, (refl, inl (search rules, search rules))))

pub returns : goal.returns
returns g c = inr (inr (c.in_ok-said.said, _, c.in_ok-said.ensures, (refl, inl (search rules, c.in_ok-map_answer.ensures))))
