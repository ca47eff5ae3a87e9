use Rattle.std.proofs.Common.{rules}
use Rattle.v7tools.proofs.files.loading.load.Goals as goal

pub returns-in-Err-Memory-clause-decodes : goal.returns-in-Err-Memory-clause-decodes
returns-in-Err-Memory-clause-decodes g c = search rules
