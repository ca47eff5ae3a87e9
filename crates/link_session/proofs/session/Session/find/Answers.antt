use Rattle.std.proofs.Common.{ℕ, List, position, ap, ◌∙◌}
use Rattle.std.specs.Prelude.{bytes_eq}
use Rattle.link_session.specs.{internal.Fields.image_in, internal.Fields.threads_in, Labelled.objects, Mentions.externals}
use Rattle.link_session.proofs.SessionLemmas.{externals-fields}
use Rattle.link_session.proofs.session.Session.find.Goals as goal

pub returns-in-Some : goal.returns-in-Some
returns-in-Some c =
    c.in-Some.ensures.index
    ∙ ap (λ (names : List (List ℕ)). position (bytes_eq c.args.name.now) names)
    (externals-fields c.self.inside.forced c.self.inside.entries.items c.self.inside.undo_records.items
    (image_in c.self.inside.image) (threads_in c.self.inside.image) c.self.invariant)
    ∙ (λ i. position (bytes_eq c.args.name.now) (externals (c.self.view_is i).forced (objects (c.self.view_is i).entries)))

pub returns-in-None : goal.returns-in-None
returns-in-None c =
    c.in-None.ensures.index
    ∙ ap (λ (names : List (List ℕ)). position (bytes_eq c.args.name.now) names)
    (externals-fields c.self.inside.forced c.self.inside.entries.items c.self.inside.undo_records.items
    (image_in c.self.inside.image) (threads_in c.self.inside.image) c.self.invariant)
    ∙ (λ i. position (bytes_eq c.args.name.now) (externals (c.self.view_is i).forced (objects (c.self.view_is i).entries)))
