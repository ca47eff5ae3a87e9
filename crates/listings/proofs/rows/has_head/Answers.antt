use Rattle.std.proofs.Common.{◌≡◌, ◌<◌, ◌∙◌, false, length, rules}
use Rattle.listings.specs.{Columns.row_of, Reading.is_head}
use Rattle.listings.proofs.ReadLemmas.{head_on}
use Rattle.listings.proofs.rows.has_head.Goals as goal

pub loop-rest-preserved : goal.loop-rest-preserved
loop-rest-preserved c =
    let line = c.cut_line.result.0.now in
    let more : 0 < length c.loop-rest.rest.now = search rules in
    let fails : is_head (row_of line) ≡ false = search rules in
    head_on c.loop-rest.rest.now line c.cut_line.result.1.now more c.cut_line.ensures.line c.cut_line.ensures.rest fails
    ∙ c.loop-rest.invariant
