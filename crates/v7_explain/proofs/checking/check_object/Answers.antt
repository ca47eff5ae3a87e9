use Rattle.std.proofs.Common.{rules}
use Rattle.v7_explain.proofs.FoundLemmas.{said_odd}
use Rattle.v7_explain.proofs.checking.check_object.Goals as goal

pub returns : goal.returns
returns c =
    said_odd c.args.evidence c.args.source.bytes.now c.args.file.now c.in_ok-odd.odd.items c.put_odd_lines.new.lines.bytes
    c.status_of-status.result c.put_odd_lines.new.lines.is_cut c.error_answer.result (search rules) (search rules) c.error_answer.ensures
