use Rattle.std.proofs.Common.{◌≡◌, ◌++◌}
use Rattle.std.specs.Vec.Iter.{into_iter_items}
use Rattle.host.proofs.arguments.gathered.Given as goal

-- the words so far, with those that are left, are all
abbrev pub invariant-loop-word : goal.invariant-loop-word
invariant-loop-word l = into_iter_items l.fn.rest ≡ l.words.items ++ into_iter_items l.word-iterator
