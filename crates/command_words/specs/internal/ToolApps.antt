-- What each tool takes, by its name.
use Rattle.std.specs.Prelude.{ℕ, List, bytes_eq, codes, cond, fold}
use Rattle.clap.specs.Simple.{App, with_rule, with_subcommand}
use Rattle.command_words.specs.Tools.{bare, files_rule, ld_app, nm_app, session_app}

-- any other name takes files alone
abbrev pub tool_app : List ℕ → App
tool_app name =
    cond (bytes_eq name (codes "ld")) ld_app (cond (bytes_eq name (codes "nm")) nm_app
    (cond (bytes_eq name (codes "session")) session_app (with_rule (bare name) files_rule)))

-- a command with the tools of these names
abbrev pub tools_added : App → List (List ℕ) → App
tools_added app names = fold (λ a name. with_subcommand a (tool_app name).top) app names
