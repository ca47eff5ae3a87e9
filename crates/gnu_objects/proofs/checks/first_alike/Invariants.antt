use Rattle.std.proofs.Common.{◌≡◌, drop}
use Rattle.gnu_objects.specs.GnuRefusals.{alike_refusal, first_alike, first_refusal}
use Rattle.gnu_objects.proofs.checks.first_alike.Given as goal

-- the externals so far are apart from all others
abbrev pub invariant-loop-n : goal.invariant-loop-n
invariant-loop-n l =
    first_alike l.strings l.symbols ≡ first_refusal (alike_refusal l.strings l.symbols) l.n (drop l.n l.symbols)
