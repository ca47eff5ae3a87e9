use Rattle.std.proofs.Common.{map, ◌++◌, ◌∙◌, sym, ap, rules}
use Rattle.std.specs.{Prelude.List, Prelude.String, Prelude.string_bytes, declared.alloc.Global.Global}
use Rattle.clap.specs.Matches.{found_of}
use Rattle.command_words.specs.declared.words.TheConstants.{FILE}
use Rattle.command_words.proofs.WordsLemmas.{values_given, no_values_given}
use Rattle.command_words.proofs.words.owned_files.Goals as goal

pub returns-in_default-clause-value : goal.returns-in_default-clause-value
returns-in_default-clause-value c =
    ap (λ (owned : List (String Global)). map string_bytes owned) c.new-owned.ensures.items
    ∙ sym (no_values_given (found_of c.args.matches.now) FILE.now (search rules))

pub loop-file-init : goal.loop-file-init
loop-file-init c =
    values_given (found_of c.args.matches.now) FILE.now (map (λ t. t.now) c.in-Some.given.now) (search rules)
    ∙ ap (λ (owned : List (String Global)). map string_bytes owned ++ map (λ t. t.now) c.in-Some.given.now) (sym c.new-owned.ensures.items)
