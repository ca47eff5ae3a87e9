use Rattle.std.proofs.Common.{◌≡◌, [], ◌≤◌, None, length, map, replicate, sym, ap, subst, rules}
use Rattle.link_session.specs.internal.Fields.{image_in, threads_in, IsSession}
use Rattle.link_session.specs.{Mentions.forced_mention, internal.Additions.with_mentions, internal.Threads.Threads}
use Rattle.link_session.proofs.SessionLemmas.{forced_session}
use Rattle.link_session.proofs.session.Session.with_forced.Goals as goal

pub invariant_of-result : goal.invariant_of-result
invariant_of-result c =
    let few : length c.args.forced.now ≤ 64 = search rules in
    let names : c.enter_forced.new.externals.entries ≡ with_mentions [] (map forced_mention c.args.forced.now) = search rules in
    let heads : c.enter_forced.new.heads.items ≡ replicate (length c.enter_forced.new.externals.entries) None = search rules in
    let entries : c.new.result.items ≡ [] = search rules in
    let undo_records : c.new-2.result.items ≡ [] = search rules in
    let none = c.new-image.ensures.threads in
    let made = record c.new-image.result { externals = c.enter_forced.new.externals; heads = c.enter_forced.new.heads } in
    subst (λ (P : Type 0). P) (λ i. IsSession c.args.forced.now (sym entries i) (sym undo_records i) (image_in made) (threads_in made))
    (forced_session c.args.forced.now few (image_in made) (threads_in made) c.new-image.ensures.text
    c.new-image.ensures.datas c.new-image.ensures.bss names c.new-image.ensures.multiples
    (ap (λ (t : Threads). t.text_links) none) (ap (λ (t : Threads). t.data_links) none) heads)
