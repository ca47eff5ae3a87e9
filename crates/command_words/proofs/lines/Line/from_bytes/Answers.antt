use Rattle.command_words.proofs.AskedLemmas.{asked_no_text}
use Rattle.command_words.proofs.lines.Line.from_bytes.Goals as goal

pub returns-in-Err-clause-value : goal.returns-in-Err-clause-value
returns-in-Err-clause-value c = asked_no_text c.args.bytes.now c.in-Err.ensures.cases.0
