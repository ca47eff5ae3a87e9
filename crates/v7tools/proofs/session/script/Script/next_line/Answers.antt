use Rattle.std.proofs.Common.{subst}
use Rattle.command_words.specs.ScriptAnswers.{GivesNext, Progress}
use Rattle.v7tools.proofs.ScriptCallLemmas.{failed_as}
use Rattle.v7tools.proofs.session.script.Script.next_line.Goals as goal

pub returns-clause-next : goal.returns-clause-next
returns-clause-next g c =
    let gives = subst (λ (old : Progress _). GivesNext g.R.Read.remaining old c.next_line.new.self c.next_line.result)
    c.self.view_is c.next_line.ensures.next in
    (c.next_line.result, c.returned.ensures, gives)

pub returns-clause-failed : goal.returns-clause-failed
returns-clause-failed g c = failed_as c.next_line.result c.returned.ensures c.next_line.ensures.next.failed
