use Rattle.std.proofs.Common.{◌≡◌, IfSome, sym, subst, rules}
use Rattle.std.specs.Prelude.{Result, Err}
use Rattle.aout_core.specs.{declared.file.ReadFault.ReadFault, Contents.Contents, Reading.IsReadOf, Reading.LeavesAfter}
use Rattle.aout_core.proofs.ReadLemmas.{refused_if_known, read_if_known}
use Rattle.aout_core.proofs.reader.read_file.Goals as goal

pub returns-in_err-header-clause-decodes : goal.returns-in_err-header-clause-decodes
returns-in_err-header-clause-decodes g c =
    let old = g.R.Read.remaining c.args.wire.now.device in
    let left = g.R.Read.remaining c.read_header.new.wire.device in
    let same : c.from_residual.result ≡ Err c.in_err-header.field-0.0 = search rules in
    subst (λ (r : Result Contents ReadFault). IfSome old (λ bytes. IsReadOf r bytes × LeavesAfter r bytes left)) (sym same)
    (refused_if_known c.in_err-header.field-0.0 old left c.in_err-header.ensures.value)

pub returns-clause-decodes : goal.returns-clause-decodes
returns-clause-decodes g c =
    let read = c.in_ok-header.ensures.value in
    read_if_known c.read_body.result (g.R.Read.remaining c.args.wire.now.device)
    (g.R.Read.remaining c.read_header.new.wire.device) (g.R.Read.remaining c.read_body.new.wire.device) c.in_ok-header.header
    read.0 read.1 c.read_body.ensures.value
