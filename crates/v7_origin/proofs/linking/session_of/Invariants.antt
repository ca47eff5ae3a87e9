use Rattle.std.proofs.Common.{◌≡◌, [], take}
use Rattle.v7_origin.specs.Whole.{AreChosen}
use Rattle.v7_origin.proofs.linking.session_of.Given as goal

-- the objects so far are those of the first numbers
abbrev pub invariant-loop-number : goal.invariant-loop-number
invariant-loop-number l = (l.session.forced ≡ []) × AreChosen l.sources (take l.number-index l.order) l.session.entries
