use Rattle.std.proofs.Common.{◌≡◌, ◌<◌, ◌∙◌, false, length, rules}
use Rattle.listings.specs.Columns.{is_said, row_of}
use Rattle.listings.proofs.ReadLemmas.{said_on}
use Rattle.listings.proofs.columns.says_something.Goals as goal

pub loop-rest-preserved : goal.loop-rest-preserved
loop-rest-preserved c =
    let line = c.cut_line.result.0.now in
    let more : 0 < length c.loop-rest.rest.now = search rules in
    let fails : is_said (row_of line).first ≡ false = search rules in
    said_on c.loop-rest.rest.now line c.cut_line.result.1.now more c.cut_line.ensures.line c.cut_line.ensures.rest fails
    ∙ c.loop-rest.invariant
