use Rattle.std.proofs.{Common.ap, Common.◌∙◌, lemmas.Result.IfOk-weaker}
use Rattle.std.specs.Prelude.{map}
use Rattle.command_words.specs.{declared.words.TheConstants.TOOLS, internal.ToolApps.tools_added}
use Rattle.command_words.proofs.words.tools.Goals as goal

pub returns : goal.returns
returns c =
    IfOk-weaker c.with_tools.result _ _
    (λ r h. h ∙ ap (λ app. tools_added app (map (λ n. n.now) TOOLS)) c.program.ensures) c.with_tools.ensures
