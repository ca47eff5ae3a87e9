use Rattle.std.proofs.Common.{◌≡◌, List, Some, None, option_map, length, filter, map, rules}
use Rattle.std.specs.Prelude.{bytes_eq, codes, string_bytes}
use Rattle.clap.specs.{Simple.subcommand_rows_of, Walk.Row, Walk.Text, Walk.rows_of, Matches.found_of, Matches.subcommand_name_of}
use Rattle.command_words.proofs.ToolLemmas.{asked_by_words, none_for_read, none_refused, none_with_dash, none_without_name, reads_none}
use Rattle.command_words.proofs.{ToolLemmas.{reads_subcommand, takes_words}, WordsLemmas.dashes-kept}
use Rattle.command_words.proofs.words.parse.Goals as goal

pub returns : goal.returns
returns c =
    let words = map string_bytes c.args.words.items in
    let given = map string_bytes c.as_slice.result.now in
    let files = map string_bytes c.in_ok-files.files.items in
    let same : words ≡ given = search rules in
    let m = c.in_ok-matches.matches in
    let name = c.in-Some.name.now in
    let rows = rows_of (found_of c.in-Some.given.now) in
    let named : Some name ≡ subcommand_name_of m = search rules in
    let rows_are : Some rows ≡ option_map (λ (p : Text × List Row). p.1) (subcommand_rows_of m) = search rules in
    let read = reads_subcommand _ words given m name rows c.in_ok-tools.ensures same c.in_ok-matches.ensures.matches named rows_are in
    let taken = takes_words _ words given c.in_ok-tools.ensures same c.in_ok-matches.ensures.kinds in
    let in_words : c.dashes.result ≡ length (filter (λ word. bytes_eq (string_bytes word) (codes "-")) c.args.words.items) = search rules in
    let in_files : c.dashes-2.result
    ≡ length (filter (λ word. bytes_eq (string_bytes word) (codes "-")) c.in_ok-files.files.items) = search rules in
    let alike : c.dashes.result ≡ c.dashes-2.result = search rules in record {
      whole = search rules;
      asked =
          asked_by_words words name rows files c.call_of.result taken read c.in_ok-files.ensures.value
          c.call_of.ensures.named c.call_of.ensures.asked;
      dashes =
          dashes-kept rows c.args.words.items c.in_ok-files.files.items c.dashes.result c.dashes-2.result
          c.call_of.result in_words in_files alike c.call_of.ensures.asked;
      none = none_for_read words name rows files c.call_of.result read c.in_ok-files.ensures.value c.call_of.ensures.none;
    }

pub returns-then-dashes-clause-none : goal.returns-then-dashes-clause-none
returns-then-dashes-clause-none c =
    let words = map string_bytes c.args.words.items in
    let given = map string_bytes c.as_slice.result.now in
    let same : words ≡ given = search rules in
    let m = c.in_ok-matches.matches in
    let name = c.in-Some.name.now in
    let rows = rows_of (found_of c.in-Some.given.now) in
    let named : Some name ≡ subcommand_name_of m = search rules in
    let rows_are : Some rows ≡ option_map (λ (p : Text × List Row). p.1) (subcommand_rows_of m) = search rules in
    let read = reads_subcommand _ words given m name rows c.in_ok-tools.ensures same c.in_ok-matches.ensures.matches named rows_are in
    let in_words : c.dashes.result ≡ length (filter (λ word. bytes_eq (string_bytes word) (codes "-")) c.args.words.items) = search rules in
    let in_files : c.dashes-2.result
    ≡ length (filter (λ word. bytes_eq (string_bytes word) (codes "-")) c.in_ok-files.files.items) = search rules in
    let differ : c.dashes.result ≡ c.dashes-2.result → ⊥ = search rules in
    none_with_dash c.args.words.items c.in_ok-files.files.items name rows c.dashes.result c.dashes-2.result _ read
    c.in_ok-files.ensures.value in_words in_files differ

pub returns-in_default-clause-none : goal.returns-in_default-clause-none
returns-in_default-clause-none c =
    let words = map string_bytes c.args.words.items in
    let given = map string_bytes c.as_slice.result.now in
    let same : words ≡ given = search rules in
    let m = c.in_ok-matches.matches in
    let unnamed : None ≡ subcommand_name_of m = search rules in
    none_without_name words _ (reads_none _ words given m c.in_ok-tools.ensures same c.in_ok-matches.ensures.matches unnamed)

pub returns-in_err-matches-clause-none : goal.returns-in_err-matches-clause-none
returns-in_err-matches-clause-none c =
    let words = map string_bytes c.args.words.items in
    let given = map string_bytes c.as_slice.result.now in
    let same : words ≡ given = search rules in
    none_refused _ words given c.in_err-matches.field-0.0 c.from_residual-in_err-matches.result c.in_ok-tools.ensures
    same c.in_err-matches.ensures.kinds c.from_residual-in_err-matches.ensures.1
