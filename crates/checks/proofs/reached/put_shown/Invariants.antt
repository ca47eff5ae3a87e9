use Rattle.std.proofs.Common.{◌≡◌, ◌++◌, drop}
use Rattle.checks.specs.Reached.{shown_from}
use Rattle.checks.proofs.reached.put_shown.Given as goal

-- the addresses so far, and those of the places that are left
abbrev pub invariant-loop-place : goal.invariant-loop-place
invariant-loop-place l =
    l.list.items ++ shown_from l.sweep l.place (drop l.place l.words) ≡ l.initial.list.items ++ shown_from l.sweep 0 l.words
