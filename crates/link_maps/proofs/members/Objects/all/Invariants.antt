use Rattle.std.proofs.Common.{◌≡◌, ◌++◌, drop}
use Rattle.link_maps.specs.Members.{all_of}
use Rattle.link_maps.proofs.members.Objects.all.Given as goal

-- the objects so far, and those that are left
abbrev pub invariant-loop-entry : goal.invariant-loop-entry
invariant-loop-entry l = l.all.items ++ drop l.entry-index l.entries ≡ l.entries

abbrev pub invariant-loop-one : goal.invariant-loop-one
invariant-loop-one l = l.all.items ++ drop l.one-index l.left ≡ all_of l.self
