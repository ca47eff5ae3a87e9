use Rattle.std.proofs.{Common.ap, Common.◌∙◌, lemmas.Result.IfOk-weaker}
use Rattle.clap.specs.Simple.{App}
use Rattle.command_words.specs.Tools.{link_rules, with_rules}
use Rattle.command_words.proofs.ToolLemmas.{adds_rule}
use Rattle.command_words.proofs.words.ld_tool.Goals as goal

pub returns : goal.returns
returns c =
    let linked = c.in_ok-with_link_options.ensures ∙ ap (λ (app : App). with_rules app link_rules) c.tool.ensures in
    let out = adds_rule _ _ _ _ _ c.in_ok-arg.ensures linked c.valued.ensures.rule c.valued.ensures.local in
    IfOk-weaker c.arg-2.result _ _ (λ r h. adds_rule _ _ _ _ _ h out c.files.ensures.rule c.files.ensures.local) c.arg-2.ensures
