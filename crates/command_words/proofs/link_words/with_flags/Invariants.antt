use Rattle.std.proofs.Common.{◌≡◌, drop, map}
use Rattle.clap.specs.Simple.{app_of}
use Rattle.command_words.specs.{Tools.with_rules, internal.FlagRules.flag_rule}
use Rattle.command_words.proofs.link_words.with_flags.Given as goal

-- the command so far, with the flags that are left, makes the whole
abbrev pub invariant-loop-id : goal.invariant-loop-id
invariant-loop-id l =
    with_rules (app_of l.fn.command) (map flag_rule l.fn.flags)
    ≡ with_rules (app_of l.command) (map flag_rule (drop l.id-index l.fn.flags))
