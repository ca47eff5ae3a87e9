use Rattle.std.proofs.Common.{◌≡◌, []}
use Rattle.v7_from_gnu.specs.Converting.{converted_from}
use Rattle.v7_from_gnu.proofs.converting.convert_each.Given as goal

-- the files so far are converted
abbrev pub invariant-loop-source : goal.invariant-loop-source
invariant-loop-source l =
    converted_from l.fn.options [] l.fn.sources.items ≡ converted_from l.fn.options l.targets.items l.source-iterator.rest.items
