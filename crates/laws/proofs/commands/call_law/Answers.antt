use Rattle.laws.proofs.{CallLemmas.link_call, CallLemmas.session_call}
use Rattle.laws.proofs.commands.call_law.Goals as goal

pub returns-clause-session : goal.returns-clause-session
returns-clause-session g c = session_call _ _

pub returns-clause-link : goal.returns-clause-link
returns-clause-link g c = link_call _ _
