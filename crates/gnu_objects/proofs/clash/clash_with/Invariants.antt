use Rattle.std.proofs.Common.{◌≡◌, drop}
use Rattle.std.specs.List.{list_any}
use Rattle.gnu_objects.specs.{Staying.are_alike, internal.Externals.names_in}
use Rattle.gnu_objects.proofs.clash.clash_with.Given as goal

-- none of those so far is alike
abbrev pub invariant-loop-first : goal.invariant-loop-first
invariant-loop-first l =
    list_any (are_alike l.external.name.now) (names_in l.before)
    ≡ list_any (are_alike l.external.name.now) (names_in (drop l.first-index l.before))
