use Rattle.std.proofs.Common.{rules}
use Rattle.link_session.proofs.state.updated_state.Goals as goal

pub returns-in-Wanted-Wanted : goal.returns-in-Wanted-Wanted
returns-in-Wanted-Wanted c = search rules
