use Rattle.std.proofs.Common.{◌≡◌, drop}
use Rattle.v7_origin.specs.Runs.{any_refused}
use Rattle.v7_origin.proofs.reading.objects_of.Given as goal

-- the files so far are objects
abbrev pub invariant-loop-source : goal.invariant-loop-source
invariant-loop-source l = any_refused l.sources ≡ any_refused (drop l.source-index l.sources)
