use Rattle.std.proofs.Common.{ap, ◌∙◌}
use Rattle.std.specs.Map.{keys_of}
use Rattle.link_session.specs.{declared.state.State.TheVariants.Wanted, internal.Additions.mention_of}
use Rattle.link_session.proofs.MentionedLemmas.{keys-with_mention}
use Rattle.link_session.proofs.limits.enter_name.Goals as goal

pub returns-clause-names : goal.returns-clause-names
returns-clause-names c = ap keys_of c.mention.ensures.names ∙ keys-with_mention c.args.names.now.entries (mention_of c.args.name (Wanted 0))
