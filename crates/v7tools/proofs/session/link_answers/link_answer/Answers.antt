use Rattle.std.proofs.Common.{rules}
use Rattle.v7tools.proofs.session.link_answers.link_answer.Goals as goal

pub returns-clause-status : goal.returns-clause-status
returns-clause-status g c = search rules
