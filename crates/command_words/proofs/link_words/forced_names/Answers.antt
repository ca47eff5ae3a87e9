use Rattle.std.proofs.Common.{map, rules}
use Rattle.clap.specs.Matches.{found_of}
use Rattle.command_words.proofs.WordsLemmas.{forced_given, none_forced}
use Rattle.command_words.proofs.link_words.forced_names.Goals as goal

pub returns-in_default : goal.returns-in_default
returns-in_default c = none_forced (found_of c.args.given.now) c.none-forced.result (search rules) (search rules)

pub loop-name-init : goal.loop-name-init
loop-name-init c =
    forced_given (found_of c.args.given.now) (map (λ t. t.now) c.in-Some.names.now) c.none-forced.result (search rules) (search rules)
