use Rattle.std.proofs.Common.{◌≡◌, ◌≤◌, [], drop, length}
use Rattle.std.specs.Map.{keys_of}
use Rattle.indexmap.specs.IndexMap.{spare}
use Rattle.link_session.specs.internal.NewNames.{with_all_new}
use Rattle.link_session.proofs.limits.count_entered.Given as goal

-- the new names so far, with those that are left, make the whole; there is room for what is left
abbrev pub invariant-loop-symbol : goal.invariant-loop-symbol
invariant-loop-symbol l = record {
  names : with_all_new (keys_of l.externals.entries) [] l.symbols
      ≡ with_all_new (keys_of l.externals.entries) (keys_of l.fresh.entries) (drop l.symbol-index l.symbols);
  space : length (drop l.symbol-index l.symbols) ≤ spare l.fresh;
}
