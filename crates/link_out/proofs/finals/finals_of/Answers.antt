use Rattle.std.proofs.{Common.◌∙◌, lemmas.Result.IfOk-weaker}
use Rattle.link_out.proofs.FinishLemmas.{names_planned, short_ends}
use Rattle.link_out.proofs.finals.finals_of.Goals as goal

pub finals_in-requires : goal.finals_in-requires
finals_in-requires c = short_ends c.args.plan.now c.requires

pub returns : goal.returns
returns c = IfOk-weaker c.finals_in.result _ _ (λ names h. h ∙ names_planned c.args.plan.now) c.finals_in.ensures
