use Rattle.std.proofs.{Common.◌≡◌, Common.ap, Common.sym, Common.rules, Common.◌∙◌, lemmas.Result.IfOk-weaker}
use Rattle.std.specs.Prelude.{codes}
use Rattle.clap.specs.Simple.{App}
use Rattle.command_words.specs.{Tools.link_rules, Tools.with_rules, internal.ToolApps.tool_app}
use Rattle.command_words.proofs.ToolLemmas.{adds_rule, takes_files}
use Rattle.command_words.proofs.words.tool_named.Goals as goal

pub returns-in-ld : goal.returns-in-ld
returns-in-ld c = IfOk-weaker c.ld_tool.result _ _ (λ r h. h ∙ sym (ap tool_app c.in-ld.is)) c.ld_tool.ensures

pub returns-in-nm : goal.returns-in-nm
returns-in-nm c = IfOk-weaker c.nm_tool.result _ _ (λ r h. h ∙ sym (ap tool_app c.in-nm.is)) c.nm_tool.ensures

pub returns-in-session : goal.returns-in-session
returns-in-session c =
    let linked = ap (λ (app : App). with_rules app link_rules) c.tool.ensures ∙ sym (ap tool_app c.in-session.is) in
    IfOk-weaker c.with_link_options.result _ _ (λ r h. h ∙ linked) c.with_link_options.ensures

pub returns-in_default : goal.returns-in_default
returns-in_default c =
    let no_ld : c.args.name.now ≡ codes "ld" → ⊥ = search rules in
    let no_nm : c.args.name.now ≡ codes "nm" → ⊥ = search rules in
    let no_session : c.args.name.now ≡ codes "session" → ⊥ = search rules in
    let other = sym (takes_files c.args.name.now no_ld no_nm no_session) in
    IfOk-weaker c.arg.result _ _
    (λ r h. adds_rule _ _ _ _ _ h c.tool-in_default.ensures c.files.ensures.rule c.files.ensures.local ∙ other) c.arg.ensures
