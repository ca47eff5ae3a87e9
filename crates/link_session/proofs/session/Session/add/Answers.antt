use Rattle.std.proofs.Common.{◌≡◌, ◌++◌, ◌∷◌, [], map, Option, None, Some, ◌∙◌, refl, sym, subst, rules}
use Rattle.aout_core.specs.Refusals.{refused}
use Rattle.link_session.specs.{declared.entry.AddFault.AddFault, declared.entry.AddFault.TheVariants.Memory, Labelled.objects}
use Rattle.link_session.specs.{Limits.refusal, Undo.{Kept, marks_in}, Sessions.{IsCause, Adds, labelled}}
use Rattle.link_session.specs.{internal.Fields.{image_in, threads_in, IsSession}, internal.Additions.{next_limit, joined_image}}
use Rattle.link_session.specs.{internal.Threads.next_threads, internal.Restores.TakesBack, declared.session.UndoRecord.UndoRecord}
use Rattle.link_session.proofs.SessionLemmas.{small, session_covered, refusal-fields, added_session, adds}
use Rattle.link_session.proofs.session.Session.add.Goals as goal

pub limit_passed-requires : goal.limit_passed-requires
limit_passed-requires c =
    small c.self.inside.forced c.self.inside.entries.items c.self.inside.undo_records.items
    (image_in c.self.inside.image) (threads_in c.self.inside.image) c.self.invariant

pub returns-in-Some-clause-cause : goal.returns-in-Some-clause-cause
returns-in-Some-clause-cause c =
    let passed : refusal c.self.inside.forced (objects c.self.inside.entries.items) c.args.object ≡ Some c.in-Some.cause =
    refusal-fields c.self.inside.forced c.self.inside.entries.items c.self.inside.undo_records.items
    (image_in c.self.inside.image) (threads_in c.self.inside.image) c.args.object c.self.invariant
    ∙ sym c.limit_passed.ensures.limit ∙ c.in-Some.is in
    subst (λ (k : Kept). IsCause (refusal k.forced (objects k.entries) c.args.object) c.in-Some.cause) c.self.view_is
    (subst (λ (limit : Option AddFault). IsCause limit c.in-Some.cause) (sym passed) refl)

pub take_in-joined-requires-clause-small : goal.take_in-joined-requires-clause-small
take_in-joined-requires-clause-small c =
    small c.self.inside.forced c.self.inside.entries.items c.self.inside.undo_records.items
    (image_in c.self.inside.image) (threads_in c.self.inside.image) c.self.invariant

pub take_in-joined-requires-clause-covered : goal.take_in-joined-requires-clause-covered
take_in-joined-requires-clause-covered c =
    session_covered c.self.inside.forced c.self.inside.entries.items c.self.inside.undo_records.items
    (image_in c.self.inside.image) (threads_in c.self.inside.image) c.args.object c.self.invariant

pub invariant_of-self : goal.invariant_of-self
invariant_of-self c =
    let e = labelled c.args.label c.args.object in
    let undo_record : UndoRecord = record { marks = c.in-Ok.marks; sizes = c.sizes-sizes.result } in
    let m = image_in c.self.inside.image in
    let t = threads_in c.self.inside.image in
    let none : next_limit m c.args.object ≡ None = search rules in
    let joined : image_in c.take_in-joined.new.image ≡ joined_image m c.args.object = search rules in
    let threaded : threads_in c.take_in-joined.new.image ≡ next_threads m c.args.object t = search rules in
    let marks : TakesBack m c.args.object t.heads c.in-Ok.marks.items = search rules in
    let entries : c.push-in-Ok.new.self.items ≡ c.self.inside.entries.items ++ e ∷ [] = search rules in
    let undo_records : c.push.new.self.items ≡ c.self.inside.undo_records.items ++ undo_record ∷ [] = search rules in
    subst (λ (P : Type 0). P) (λ i. IsSession c.self.inside.forced (sym entries i) (sym undo_records i)
    (image_in c.take_in-joined.new.image) (threads_in c.take_in-joined.new.image))
    (added_session c.self.inside.forced c.self.inside.entries.items c.self.inside.undo_records.items m t e undo_record
    c.self.invariant marks
    (image_in c.take_in-joined.new.image) (threads_in c.take_in-joined.new.image) c.limit_passed.ensures.object none
    c.sizes-sizes.ensures joined threaded)

pub returns-in-Ok-clause-fits : goal.returns-in-Ok-clause-fits
returns-in-Ok-clause-fits c =
    let none : next_limit (image_in c.self.inside.image) c.args.object ≡ None = search rules in
    subst (λ (k : Kept). refusal k.forced (objects k.entries) c.args.object ≡ None) c.self.view_is
    (refusal-fields c.self.inside.forced c.self.inside.entries.items c.self.inside.undo_records.items
    (image_in c.self.inside.image) (threads_in c.self.inside.image) c.args.object c.self.invariant ∙ none)

pub returns-in-Ok-clause-added : goal.returns-in-Ok-clause-added
returns-in-Ok-clause-added c =
    let e = labelled c.args.label c.args.object in
    let undo_record : UndoRecord = record { marks = c.in-Ok.marks; sizes = c.sizes-sizes.result } in
    let m = image_in c.self.inside.image in
    let t = threads_in c.self.inside.image in
    let marks : TakesBack m c.args.object t.heads c.in-Ok.marks.items = search rules in
    let entries : c.push-in-Ok.new.self.items ≡ c.self.inside.entries.items ++ e ∷ [] = search rules in
    let undo_records : c.push.new.self.items ≡ c.self.inside.undo_records.items ++ undo_record ∷ [] = search rules in
    subst (λ (P : Type 0). P)
    (λ i. Adds (c.self.view_is i)
    (record { forced = c.self.inside.forced; entries = sym entries i; journal = map marks_in (sym undo_records i) }) e)
    (adds c.self.inside.forced c.self.inside.entries.items c.self.inside.undo_records.items m t e undo_record c.self.invariant marks)

pub returns-in-Err-clause-cause : goal.returns-in-Err-clause-cause
returns-in-Err-clause-cause c =
    let none : next_limit (image_in c.self.inside.image) c.args.object ≡ None = search rules in
    let fits = refusal-fields c.self.inside.forced c.self.inside.entries.items c.self.inside.undo_records.items
    (image_in c.self.inside.image) (threads_in c.self.inside.image) c.args.object c.self.invariant ∙ none in
    subst (λ (k : Kept). IsCause (refusal k.forced (objects k.entries) c.args.object) (Memory refused)) c.self.view_is
    (subst (λ (limit : Option AddFault). IsCause limit (Memory refused)) (sym fits) refl)
