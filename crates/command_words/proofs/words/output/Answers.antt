use Rattle.std.proofs.Common.{rules, ◌∙◌}
use Rattle.clap.specs.Matches.{found_of}
use Rattle.command_words.proofs.WordsLemmas.{output_given}
use Rattle.command_words.proofs.words.output.Goals as goal

pub returns-clause-value : goal.returns-clause-value
returns-clause-value c =
    c.in_ok-from_str.ensures.ok ∙ output_given (found_of c.args.given.now) c.get_str.result _ c.unwrap_or-path.result
    (search rules) c.unwrap_or-path.ensures
