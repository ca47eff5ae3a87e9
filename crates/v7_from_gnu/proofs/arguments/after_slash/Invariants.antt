use Rattle.std.proofs.Common.{◌≡◌, length, IsUtf8}
use Rattle.v7_from_gnu.specs.Calls.{after_slash}
use Rattle.v7_from_gnu.proofs.arguments.after_slash.Given as goal

-- what follows the last slash is the same for what is left
abbrev pub invariant-loop-rest : goal.invariant-loop-rest
invariant-loop-rest l = (after_slash l.fn.path ≡ after_slash l.name) × IsUtf8 l.name

abbrev pub decreases-loop-rest : goal.decreases-loop-rest
decreases-loop-rest l = length l.name
