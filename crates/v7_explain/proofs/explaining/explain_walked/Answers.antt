use Rattle.std.proofs.Common.{rules, refl, inl, inr}
use Rattle.v7_explain.proofs.explaining.explain_walked.Goals as goal

pub returns : goal.returns
returns g c = inr (_, inr (c.in_ok-said.said, _, c.in_ok-said.ensures, (refl, c.in_ok-totalled.ensures)))

pub returns-in_err-said : goal.returns-in_err-said
returns-in_err-said g c = inr (_, inl (c.in_err-said.field-0.0, c.in_err-said.ensures, search rules))

pub returns-in_err-totalled : goal.returns-in_err-totalled
returns-in_err-totalled g c = inr (_, inr (c.in_ok-said.said, _, c.in_ok-said.ensures, (refl, search rules)))
