use Rattle.std.proofs.{Common.{◌≡◌, ◌+◌, ◌≤◌, [], map, length, ap, ◌∙◌, arith, rules}, lemmas.List.length-map}
use Rattle.std.specs.Prelude.{vec_len, vec_capacity}
use Rattle.link_session.specs.Mentions.{Mention, forced_mention, names_of}
use Rattle.link_session.specs.{Image.Named, internal.Additions.with_mentions, internal.Threads.grown_heads}
use Rattle.link_session.proofs.{LimitLemmas.length-new_names, MentionedLemmas.length-with_mentions, HeadLemmas.grown_none}
use Rattle.link_session.proofs.session.enter_forced.Goals as goal

pub grow_heads-requires : goal.grow_heads-requires
grow_heads-requires c =
    let names : c.force_names.new.externals.entries ≡ with_mentions [] (map forced_mention c.args.names.now) = search rules in
    let space : vec_len c.reserve-2.new.self + length c.args.names.now ≤ vec_capacity c.reserve-2.new.self = search rules in
    omega (
      arith,
      ap (λ (es : Named). length es) names,
      length-with_mentions [] (map forced_mention c.args.names.now),
      length-new_names [] (names_of (map forced_mention c.args.names.now)),
      length-map (map forced_mention c.args.names.now) (λ (k : Mention). k.name),
      length-map c.args.names.now forced_mention,
      space,
    )

pub returns-clause-heads : goal.returns-clause-heads
returns-clause-heads c =
    let count : c.len.result ≡ length c.force_names.new.externals.entries = search rules in
    let start : c.reserve-2.new.self.items ≡ [] = search rules in
    c.grow_heads.ensures ∙ (λ i. grown_heads (count i) (start i)) ∙ grown_none (length c.force_names.new.externals.entries)
