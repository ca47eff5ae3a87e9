use Rattle.std.proofs.Common.{◌≤◌, length, drop}
use Rattle.gnu_objects.specs.internal.AlikeNames.{FindsAlike}
use Rattle.gnu_objects.proofs.alike.NamedSymbols.new.Given as goal

-- the symbols from n on are put in
abbrev pub invariant-loop-n : goal.invariant-loop-n
invariant-loop-n l = record {
  inside : l.n ≤ length l.symbols;
  finds : FindsAlike l.strings l.externals l.n (drop l.n l.symbols) l.names;
}

abbrev pub decreases-loop-n : goal.decreases-loop-n
decreases-loop-n l = l.n
