use Rattle.std.proofs.{Common.{arith, ◌≡◌, ◌++◌, ◌∷◌, [], ◌∙◌, ap, sym, subst, rules}, lemmas.Grind.common_steps}
use Rattle.link_session.specs.internal.Fields.{image_in, threads_in, threads_by, with_heads_back, IsSession}
use Rattle.link_session.specs.{Labelled.objects, Image.image, Undo.undo}
use Rattle.link_session.proofs.SessionLemmas.{at_least, kept_sizes, withdrawn_session}
use Rattle.link_session.proofs.session.Session.withdraw.Goals as goal

pub undo-requires : goal.undo-requires
undo-requires c =
    let entries : c.self.inside.entries.items ≡ c.pop.new.self.items ++ c.in_ok-entry.entry ∷ [] = search rules in
    let undo_records : c.self.inside.undo_records.items ≡ c.pop-2.new.self.items ++ c.unwrap-undo_record.result ∷ [] = search rules in
    record {
      within =
          at_least c.self.inside.forced c.pop.new.self.items c.pop-2.new.self.items (image_in c.self.inside.image)
          (threads_in c.self.inside.image) c.in_ok-entry.entry c.unwrap-undo_record.result
          (subst (λ (P : Type 0). P) (λ i. IsSession c.self.inside.forced (entries i) (undo_records i)
          (image_in c.self.inside.image) (threads_in c.self.inside.image)) c.self.invariant);
    }

pub invariant_of-self-2 : goal.invariant_of-self-2
invariant_of-self-2 c =
    let m = image_in c.self.inside.image in
    let t = threads_in c.self.inside.image in
    let undo_record = c.unwrap-undo_record.result in
    let entries : c.self.inside.entries.items ≡ c.pop.new.self.items ++ c.in_ok-entry.entry ∷ [] = search rules in
    let undo_records : c.self.inside.undo_records.items ≡ c.pop-2.new.self.items ++ c.unwrap-undo_record.result ∷ [] = search rules in
    let earlier = image c.self.inside.forced (objects c.pop.new.self.items) in
    let session = subst (λ (P : Type 0). P) (λ i. IsSession c.self.inside.forced (entries i) (undo_records i) m t) c.self.invariant in
    let sizes =
    (kept_sizes c.self.inside.forced c.pop.new.self.items c.pop-2.new.self.items m t c.in_ok-entry.entry undo_record session).1 in
    let image_then : image_in c.undo.new.image ≡ undo undo_record.marks.items m earlier =
    c.undo.ensures.image earlier sizes ∙ ap (λ ks. undo ks m earlier) c.deref.ensures.value in
    let threads : threads_in c.undo.new.image ≡ with_heads_back undo_record.marks.items (threads_by undo_record.sizes m t) =
    c.undo.ensures.threads ∙ ap (λ ks. with_heads_back ks (threads_by undo_record.sizes m t)) c.deref.ensures.value in
    subst (λ (P : Type 0). P)
    (λ i. IsSession c.self.inside.forced c.pop.new.self.items c.pop-2.new.self.items (sym image_then i) (sym threads i))
    (withdrawn_session c.self.inside.forced c.pop.new.self.items c.pop-2.new.self.items m t c.in_ok-entry.entry undo_record session)

pub unwrap-undo_record-requires : goal.unwrap-undo_record-requires
unwrap-undo_record-requires c = grind (arith, common_steps)

pub returns-clause-last : goal.returns-clause-last
returns-clause-last c = grind (arith, common_steps)
