use Rattle.std.proofs.Common.{◌≡◌, ◌+◌, ◌≤◌, ◌++◌, drop, length}
use Rattle.std.specs.Prelude.{filter, vec_len, vec_capacity}
use Rattle.indexmap.specs.IndexMap.{spare}
use Rattle.aout_core.specs.WellFormed.{is_external}
use Rattle.link_session.specs.internal.Additions.{with_mentions, all_clashes, state_marks, mentions_by}
use Rattle.link_session.proofs.PlacedLemmas.{noted_places}
use Rattle.link_session.proofs.mention.enter_all.Given as goal

-- what is entered so far, with what is left, makes the whole; there is room for what is left
abbrev pub invariant-loop-symbol : goal.invariant-loop-symbol
invariant-loop-symbol l = record {
  kept : l.kept ≡ length l.initial.externals.entries;
  names : with_mentions l.initial.externals.entries (mentions_by l.table.shifts l.table.symbols.now)
      ≡ with_mentions l.externals.entries (mentions_by l.table.shifts (drop l.symbol-index l.table.symbols.now));
  multiples : l.initial.multiples.items ++ all_clashes l.initial.externals.entries (mentions_by l.table.shifts l.table.symbols.now)
      ≡ l.multiples.items ++ all_clashes l.externals.entries (mentions_by l.table.shifts (drop l.symbol-index l.table.symbols.now));
  marks : l.initial.marks.items ++ state_marks l.kept l.initial.externals.entries (mentions_by l.table.shifts l.table.symbols.now)
      ≡ l.marks.items ++ state_marks l.kept l.externals.entries (mentions_by l.table.shifts (drop l.symbol-index l.table.symbols.now));
  places : l.initial.places.items ++ noted_places l.table.shifts l.initial.externals.entries l.table.symbols.now
      ≡ l.places.items ++ noted_places l.table.shifts l.externals.entries (drop l.symbol-index l.table.symbols.now);
  names_space : length (filter is_external (drop l.symbol-index l.table.symbols.now)) ≤ spare l.externals;
  multiples_space : vec_len l.multiples + length (filter is_external (drop l.symbol-index l.table.symbols.now)) ≤ vec_capacity l.multiples;
  marks_space : vec_len l.marks + length (filter is_external (drop l.symbol-index l.table.symbols.now)) ≤ vec_capacity l.marks;
  places_space : vec_len l.places + length (drop l.symbol-index l.table.symbols.now) ≤ vec_capacity l.places;
}
