use Rattle.std.proofs.Common.{◌≡◌, ◌≤◌, ◌++◌, false, vec_len, vec_capacity}
use Rattle.std.specs.Io.KnownBytes.{Consumes, prepend_known}
use Rattle.command_words.specs.{declared.lines.TheConstants.LINE_LIMIT, ScriptAnswers.HasLine, ScriptAnswers.HasNone}
use Rattle.command_words.proofs.line_reader.read_line.Given as goal

abbrev pub invariant-loop : goal.invariant-loop
invariant-loop g l =
    (l.reader.wire.has_failed ≡ false) × (vec_len l.line ≡ l.counter) × (LINE_LIMIT ≤ vec_capacity l.line) × HasNone l.line.items
    × Consumes (prepend_known l.initial.reader.held (g.R.Read.remaining l.initial.reader.wire.device))
    (prepend_known l.reader.held (g.R.Read.remaining l.reader.wire.device)) l.line.items
    × (HasLine l.initial.reader.held → (l.initial.reader.held ≡ l.line.items ++ l.reader.held) × (l.reader.wire ≡ l.initial.reader.wire))
