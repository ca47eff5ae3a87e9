use Rattle.std.proofs.Common.{rules}
use Rattle.link_session.proofs.limits.limit_passed.Goals as goal

pub returns-clause-limit : goal.returns-clause-limit
returns-clause-limit c = search rules
