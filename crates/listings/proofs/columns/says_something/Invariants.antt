use Rattle.std.proofs.Common.{◌≡◌, length}
use Rattle.listings.specs.Columns.{says_something}
use Rattle.listings.proofs.columns.says_something.Given as goal

abbrev pub invariant-loop-rest : goal.invariant-loop-rest
invariant-loop-rest l = says_something l.rest ≡ says_something l.fn.text

abbrev pub decreases-loop-rest : goal.decreases-loop-rest
decreases-loop-rest l = length l.rest
