use Rattle.std.proofs.Common.{◌≡◌, ◌-◌, ◌∙◌, Some, length, ap, rules}
use Rattle.std.specs.Prelude.{slice_get}
use Rattle.link_session.specs.Sessions.{newest}
use Rattle.link_session.proofs.SessionLemmas.{newest_record}
use Rattle.link_session.proofs.session.Session.last_marks.Goals as goal

pub returns-in-Some-clause-value : goal.returns-in-Some-clause-value
returns-in-Some-clause-value c =
    let last : Some c.in-Some.undo_record.now
    ≡ slice_get c.self.inside.undo_records.items (length c.self.inside.undo_records.items - 1) = search rules in
    c.deref-in-Some.ensures.value ∙ newest_record c.self.inside.undo_records.items c.in-Some.undo_record.now last
    ∙ ap (λ k. newest k.journal) c.self.view_is
