use Rattle.std.proofs.Common.{◌≡◌, ◌≤◌, drop, length, map}
use Rattle.indexmap.specs.IndexMap.{spare}
use Rattle.link_session.specs.{Mentions.forced_mention, internal.Additions.with_mentions}
use Rattle.link_session.proofs.session.force_names.Given as goal

-- the names so far, with those that are left, make the whole
abbrev pub invariant-loop-name : goal.invariant-loop-name
invariant-loop-name l = record {
  names : with_mentions l.initial.externals.entries (map forced_mention l.names)
      ≡ with_mentions l.externals.entries (map forced_mention (drop l.name-index l.names));
  space : length (drop l.name-index l.names) ≤ spare l.externals;
}
