use Rattle.std.proofs.Common.{sym, arith, refl}
use Rattle.link_session.proofs.PlaceLemmas.{with_state-after}
use Rattle.link_session.proofs.undo.put_state.Goals as goal

pub returns-then-index-len : goal.returns-then-index-len
returns-then-index-len c = refl

pub returns-else-index-len : goal.returns-else-index-len
returns-else-index-len c = sym (with_state-after c.args.externals.now.entries c.args.index c.args.state (omega (arith, c.len.ensures.len)))
