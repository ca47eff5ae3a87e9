use Rattle.std.proofs.Common.{◌∙◌, ap}
use Rattle.aout_core.specs.Encoding.{encoding}
use Rattle.host.specs.Pieces.{Held, written}
use Rattle.host.proofs.PieceLemmas.{is_made, on_device}
use Rattle.host.proofs.disk.store_in_pieces.Goals as goal

pub returns-clause-kept : goal.returns-clause-kept
returns-clause-kept g c = λ kept.
    let begun = c.new-out.ensures.device ∙ c.new.ensures in
    let back = c.into_file.ensures ∙ ap (λ (h : Held _). h.file) c.into_inner.ensures in
    on_device g.F.Write.contents c.store_on-stored.result c.new-out.result c.store_on-stored.new.out c.args.device c.into_file.result
    (encoding c.args.file.now) c.store_on-stored.ensures.stored kept (ap (λ (h : Held _). h.file) begun) (ap (λ (h : Held _). h.held) begun)
    (c.store_on-stored.ensures.passed kept) back

pub returns-clause-made : goal.returns-clause-made
returns-clause-made g c =
    is_made (written g.F.Write.contents) c.store_on-stored.result c.new-out.result c.store_on-stored.new.out (encoding c.args.file.now)
    c.store_on-stored.ensures.stored
