use Rattle.std.proofs.Common.{◌≡◌, [], ◌++◌, take, drop}
use Rattle.gnu_objects.specs.{Clashes.{alike_after, names_of}, internal.Externals.HasNames, internal.Externals.names_in}
use Rattle.gnu_objects.proofs.clash.clashes_in.Given as goal

-- the names so far are put in, and those that are alike with an earlier one are found
abbrev pub invariant-loop-n : goal.invariant-loop-n
invariant-loop-n l = record {
  has : HasNames (names_in (take l.n l.all)) l.names;
  left : alike_after [] (names_in l.all)
      ≡ names_of l.clashes.items ++ alike_after (names_in (take l.n l.all)) (names_in (drop l.n l.all));
}
