use Rattle.std.proofs.Common.{◌∙◌}
use Rattle.link_session.proofs.LimitLemmas.{found-is_among}
use Rattle.link_session.proofs.limits.contains.Goals as goal

pub returns : goal.returns
returns c = c.contains_key.ensures ∙ found-is_among c.args.externals.now.entries c.args.name.now
