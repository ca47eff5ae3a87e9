use Rattle.std.proofs.Common.{rules}
use Rattle.link_out.proofs.layout.segment_bases.Goals as goal

pub returns : goal.returns
returns c = search rules
