use Rattle.std.proofs.Common.{◌*◌, ◌∙◌, length, ap, arith, rules}
use Rattle.aout_core.specs.declared.symbol.Segment.TheVariants.{DataSeg}
use Rattle.link_session.specs.internal.Fields.{image_in, threads_in, IsSmall}
use Rattle.link_session.specs.{Labelled.objects, Mentions.mentions, Starts.total, Undo.Kept}
use Rattle.link_session.proofs.{SessionLemmas.small, TotalLemmas.data_total}
use Rattle.link_session.proofs.session.Session.data_cells.Goals as goal

pub returns-clause-short : goal.returns-clause-short
returns-clause-short c =
    let s : IsSmall (image_in c.self.inside.image) = small c.self.inside.forced c.self.inside.entries.items
    c.self.inside.undo_records.items (image_in c.self.inside.image) (threads_in c.self.inside.image) c.self.invariant in
    omega (arith, c.deref.ensures.len)

pub returns-clause-total : goal.returns-clause-total
returns-clause-total c =
    let os = objects c.self.inside.entries.items in
    ap (λ cells. 2 * length cells) (search rules)
    ∙ data_total (mentions c.self.inside.forced os) os c.self.invariant.good
    ∙ ap (λ (k : Kept). total DataSeg (objects k.entries)) c.self.view_is
