use Rattle.std.proofs.lemmas.Result.{IfOk-weaker}
use Rattle.command_words.proofs.ToolLemmas.{adds_rule}
use Rattle.command_words.proofs.link_words.with_link_options.Goals as goal

pub returns : goal.returns
returns c =
    let forced = adds_rule _ _ _ _ _ c.in_ok-arg.ensures c.in_ok-with_flags.ensures c.valued.ensures.rule c.valued.ensures.local in
    IfOk-weaker c.arg-2.result _ _ (λ r h. adds_rule _ _ _ _ _ h forced c.valued-2.ensures.rule c.valued-2.ensures.local) c.arg-2.ensures
