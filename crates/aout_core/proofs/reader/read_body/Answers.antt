use Rattle.std.proofs.Common.{◌≡◌, rules, subst}
use Rattle.aout_core.specs.{declared.header.Header.Header, Parts.contents_of, internal.ReadParts.TakesBody}
use Rattle.aout_core.proofs.ReadLemmas.{body_fits}
use Rattle.aout_core.proofs.reader.read_body.Goals as goal

pub from_parts-requires : goal.from_parts-requires
from_parts-requires g c =
    let header : c.in_ok-parts.parts.header ≡ c.args.header = search rules in
    let read = subst (λ (h : Header). TakesBody h (g.R.Read.remaining c.args.wire.now.device)
    (g.R.Read.remaining c.read_lists.new.wire.device) (contents_of c.read_lists.new.parts)) header c.in_ok-read_lists.ensures.value in
    body_fits c.args.header read.body (contents_of c.read_lists.new.parts) c.requires.header read.long read.encoded
