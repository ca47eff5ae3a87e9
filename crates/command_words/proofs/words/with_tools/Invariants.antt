use Rattle.std.proofs.Common.{◌≡◌, drop, map}
use Rattle.clap.specs.Simple.{app_of}
use Rattle.command_words.specs.internal.ToolApps.{tools_added}
use Rattle.command_words.proofs.words.with_tools.Given as goal

-- the command so far, with the tools that are left, makes the whole
abbrev pub invariant-loop-name : goal.invariant-loop-name
invariant-loop-name l =
    tools_added (app_of l.fn.command) (map (λ n. n.now) l.fn.names)
    ≡ tools_added (app_of l.command) (map (λ n. n.now) (drop l.name-index l.fn.names))
