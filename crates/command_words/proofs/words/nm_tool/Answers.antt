use Rattle.std.proofs.{lemmas.Result.IfOk-weaker, Common.ap, Common.◌∙◌}
use Rattle.clap.specs.Simple.{App}
use Rattle.command_words.specs.Tools.{list_rules, with_rules}
use Rattle.command_words.proofs.ToolLemmas.{adds_rule}
use Rattle.command_words.proofs.words.nm_tool.Goals as goal

pub returns : goal.returns
returns c =
    let flags = c.in_ok-with_flags.ensures ∙ ap (λ (app : App). with_rules app list_rules) c.tool.ensures in
    IfOk-weaker c.arg.result _ _ (λ r h. adds_rule _ _ _ _ _ h flags c.files.ensures.rule c.files.ensures.local) c.arg.ensures
