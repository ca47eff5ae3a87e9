use Rattle.std.proofs.Common.{true, ap, ◌∙◌}
use Rattle.clap.specs.{Simple.{app_of_fields, on_top}, declared.builder.command.Command.{Command, Command-F}}
use Rattle.command_words.proofs.words.tool.Goals as goal

pub returns : goal.returns
returns c =
    let help = c.disable_help_flag.ensures in
    let version = c.disable_version_flag.ensures ∙ ap (λ (f : Command-F Command). record f { disable_version_flag = true }) help in
    let topics = c.disable_help_subcommand.ensures ∙ ap (λ (f : Command-F Command). record f { disable_help_subcommand = true }) version in
    ap app_of_fields topics
    ∙ ap (on_top (λ s. record s { disable_help_flag = true; disable_version_flag = true; disable_help_subcommand = true }))
    c.new.ensures.app
