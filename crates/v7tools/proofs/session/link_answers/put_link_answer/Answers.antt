use Rattle.std.proofs.Common.{sym, subst}
use Rattle.aout_core.specs.Wires.{Writes}
use Rattle.aout_core.proofs.PutsLemmas.{writes_both, writes_no_more}
use Rattle.link_out.specs.{Outcomes.report_names}
use Rattle.host.specs.declared.file_system.Stored.{Stored}
use Rattle.v7tools.specs.Answers.{link_answer_text}
use Rattle.v7tools.proofs.session.link_answers.put_link_answer.Goals as goal

pub returns-in_err-write-in-Kept : goal.returns-in_err-write-in-Kept
returns-in_err-write-in-Kept g c =
    let f = report_names c.args.linked.now.report in
    let path = c.args.path.now in
    subst (λ (s : Stored). Writes g.W.Write.contents c.from_residual.result c.args.answers.now c.write.new.out
    (link_answer_text f path s)) (sym c.in-Kept.is) (writes_no_more _ c.from_residual.ensures.0 c.in_err-write-in-Kept.ensures)

pub returns-in_ok-write-in-Kept : goal.returns-in_ok-write-in-Kept
returns-in_ok-write-in-Kept g c =
    let f = report_names c.args.linked.now.report in
    subst (λ (s : Stored). Writes g.W.Write.contents c.put_linked_line.result c.args.answers.now
    c.put_linked_line.new.answers (link_answer_text f c.args.path.now s)) (sym c.in-Kept.is)
    (writes_both c.in_ok-write-in-Kept.ensures (rw c.status.ensures at c.put_linked_line.ensures))

pub returns-in-NotCreated : goal.returns-in-NotCreated
returns-in-NotCreated g c = rw c.in-NotCreated.is c.put_path_line.ensures

pub returns-in-Failed : goal.returns-in-Failed
returns-in-Failed g c = rw c.in-Failed.is c.put_path_line-in-Failed.ensures
