use Rattle.std.proofs.Common.{rules}
use Rattle.host.proofs.ReadingLemmas.{taken_at}
use Rattle.host.proofs.sources.bytes_at.Goals as goal

pub returns : goal.returns
returns g c =
    search (rules, taken_at)
