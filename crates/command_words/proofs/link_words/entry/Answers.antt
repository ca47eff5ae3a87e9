use Rattle.std.proofs.Common.{rules}
use Rattle.clap.specs.Matches.{found_of}
use Rattle.command_words.proofs.WordsLemmas.{name_given, no_name_given}
use Rattle.command_words.proofs.link_words.entry.Goals as goal
use Rattle.command_words.specs.declared.link_words.TheConstants.{ENTRY}

pub returns-in-Some : goal.returns-in-Some
returns-in-Some c = name_given (found_of c.args.given.now) ENTRY.now c.in-Some.name.now c.from_bytes.result (search rules) (search rules)

pub returns-in-None : goal.returns-in-None
returns-in-None c = no_name_given (found_of c.args.given.now) ENTRY.now (search rules)
