use Rattle.std.proofs.{Common.{ap, sym, refl, ◌∙◌, ◌+◌, drop, map}, lemmas.List.{at_drop_more, drop_all}}
use Rattle.clap.specs.Simple.{App, app_of}
use Rattle.command_words.specs.{Tools.with_rules, internal.FlagRules.flag_rule}
use Rattle.command_words.proofs.ToolLemmas.{adds_rule}
use Rattle.command_words.proofs.link_words.with_flags.Goals as goal

pub loop-id-init : goal.loop-id-init
loop-id-init c = refl

pub loop-id-preserved : goal.loop-id-preserved
loop-id-preserved c =
    let left = drop (c.loop-id.id-index + 1) c.args.flags.now in
    let added = adds_rule _ _ _ _ _ c.in_ok-command.ensures refl c.flag.ensures.rule c.flag.ensures.local in
    c.loop-id.invariant ∙ at_drop_more (λ flags. with_rules (app_of c.loop-id.command) (map flag_rule flags)) c.args.flags.now
    c.loop-id.id-index _ c.loop-id-test.true ∙ ap (λ (app : App). with_rules app (map flag_rule left)) (sym added)

pub returns : goal.returns
returns c =
    let none = ap (λ flags. with_rules (app_of c.loop-id.command) (map flag_rule flags))
    (drop_all c.loop-id.id-index c.args.flags.now c.loop-id-test.false) in
    sym (c.loop-id.invariant ∙ none)
