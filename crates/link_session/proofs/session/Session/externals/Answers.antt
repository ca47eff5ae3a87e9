use Rattle.std.proofs.Common.{arith, length, ap}
use Rattle.link_session.specs.{Image.Named, internal.Fields.image_in, internal.Fields.threads_in, internal.Fields.IsSmall}
use Rattle.link_session.proofs.{ExternalLemmas.gives_in_order, SessionLemmas.small}
use Rattle.link_session.proofs.session.Session.externals.Goals as goal

pub returns-clause-few : goal.returns-clause-few
returns-clause-few c =
    let s : IsSmall (image_in c.self.inside.image) = small c.self.inside.forced c.self.inside.entries.items
    c.self.inside.undo_records.items (image_in c.self.inside.image) (threads_in c.self.inside.image) c.self.invariant in
    omega (arith, s.names, ap (λ (es : Named). length es) c.of.ensures)

pub returns-clause-runs : goal.returns-clause-runs
returns-clause-runs c = gives_in_order
