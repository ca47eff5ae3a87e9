use Rattle.std.proofs.Common.{rules}
use Rattle.v7tools.proofs.parsing.parse.Goals as goal

pub returns-clause-whole : goal.returns-clause-whole
returns-clause-whole c = c.in_ok-parse.ensures.whole

pub returns-clause-asked : goal.returns-clause-asked
returns-clause-asked c = c.in_ok-parse.ensures.asked

pub returns-clause-dashes : goal.returns-clause-dashes
returns-clause-dashes c = c.in_ok-parse.ensures.dashes

pub returns-in_err-parse-clause-none : goal.returns-in_err-parse-clause-none
returns-in_err-parse-clause-none c = search rules
