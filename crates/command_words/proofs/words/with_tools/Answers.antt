use Rattle.std.proofs.{Common.ap, Common.sym, Common.refl, Common.◌∙◌, Common.map, lemmas.List.drop_all}
use Rattle.clap.specs.Simple.{app_of}
use Rattle.command_words.specs.internal.ToolApps.{tools_added}
use Rattle.command_words.proofs.ToolLemmas.{adds_named}
use Rattle.command_words.proofs.words.with_tools.Goals as goal

pub loop-name-init : goal.loop-name-init
loop-name-init c = refl

pub loop-name-preserved : goal.loop-name-preserved
loop-name-preserved c =
    c.loop-name.invariant ∙ adds_named _ _ _ c.args.names.now c.loop-name.name-index _ c.loop-name-test.true
    c.in_ok-command.ensures c.in_ok-tool_named.ensures

pub returns : goal.returns
returns c =
    let none = ap (λ names. tools_added (app_of c.loop-name.command) (map (λ n. n.now) names))
    (drop_all c.loop-name.name-index c.args.names.now c.loop-name-test.false) in
    sym (c.loop-name.invariant ∙ none)
