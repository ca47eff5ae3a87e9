use Rattle.std.proofs.Common.{◌≡◌, length}
use Rattle.texts.specs.Lines.{lines_in}
use Rattle.listings.specs.Reading.{has_head}
use Rattle.listings.proofs.rows.has_head.Given as goal

abbrev pub invariant-loop-rest : goal.invariant-loop-rest
invariant-loop-rest l = has_head (lines_in l.rest) ≡ has_head (lines_in l.fn.text)

abbrev pub decreases-loop-rest : goal.decreases-loop-rest
decreases-loop-rest l = length l.rest
