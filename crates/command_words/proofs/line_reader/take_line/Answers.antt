use Rattle.std.proofs.{Common.{◌≡◌, ◌+◌, ◌≤◌, ◌∙◌, length, vec_len, refl, sym, rules, arith}, lemmas.Bool.eqb-false}
use Rattle.std.specs.Io.KnownBytes.{prepend_known}
use Rattle.command_words.specs.declared.line_reader.TheConstants.{LINES_LIMIT}
use Rattle.command_words.proofs.ScriptLemmas.{line_known, last_known, long_known}
use Rattle.command_words.proofs.line_reader.take_line.Goals as goal

pub returns-in-Newline-clause-value : goal.returns-in-Newline-clause-value
returns-in-Newline-clause-value g c =
    let few : c.args.line_count + 1 ≤ LINES_LIMIT = search rules in
    let size : length c.read_line.new.line.items ≡ vec_len c.read_line.new.line = search rules in
    let (none, taken) = c.in-Newline.ensures.ends in
    line_known c.args.line_count (prepend_known c.args.reader.now.held (g.R.Read.remaining c.args.reader.now.wire.device))
    (prepend_known c.read_line.new.reader.held (g.R.Read.remaining c.read_line.new.reader.wire.device))
    c.read_line.new.line.items (omega (arith, few)) (omega (arith, size, c.in-Newline.ensures.short)) none taken

pub returns-in-End-2-clause-value : goal.returns-in-End-2-clause-value
returns-in-End-2-clause-value g c =
    let few : c.args.line_count + 1 ≤ LINES_LIMIT = search rules in
    let size : length c.read_line.new.line.items ≡ vec_len c.read_line.new.line = search rules in
    let some : length c.read_line.new.line.items ≡ 0 →
    ⊥ = λ e. eqb-false (vec_len c.read_line.new.line) 0 (sym c.is_empty.ensures ∙ c.if-is_empty.false) (sym size ∙ e) in
    let (none, taken, end) = c.in-End.ensures.ends in
    last_known c.args.line_count (prepend_known c.args.reader.now.held (g.R.Read.remaining c.args.reader.now.wire.device))
    (prepend_known c.read_line.new.reader.held (g.R.Read.remaining c.read_line.new.reader.wire.device))
    c.read_line.new.line.items (omega (arith, few)) (omega (arith, size, c.in-End.ensures.short)) some none taken end

pub returns-in-Long-clause-value : goal.returns-in-Long-clause-value
returns-in-Long-clause-value g c =
    let few : c.args.line_count + 1 ≤ LINES_LIMIT = search rules in
    let size : length c.read_line.new.line.items ≡ vec_len c.read_line.new.line = search rules in
    let (b, none, taken) = c.in-Long.ensures.ends in
    long_known c.args.line_count (prepend_known c.args.reader.now.held (g.R.Read.remaining c.args.reader.now.wire.device))
    (prepend_known c.read_line.new.reader.held (g.R.Read.remaining c.read_line.new.reader.wire.device))
    c.read_line.new.line.items b (omega (arith, few)) (size ∙ c.in-Long.ensures.long refl) none taken

pub returns-in-Newline-clause-latched : goal.returns-in-Newline-clause-latched
returns-in-Newline-clause-latched g c = c.read_line.ensures.latched

pub returns-in-Long-clause-latched : goal.returns-in-Long-clause-latched
returns-in-Long-clause-latched g c = c.read_line.ensures.latched

pub returns-in-Failed-clause-latched : goal.returns-in-Failed-clause-latched
returns-in-Failed-clause-latched g c = c.read_line.ensures.latched
