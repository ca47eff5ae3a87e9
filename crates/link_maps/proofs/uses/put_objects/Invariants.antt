use Rattle.std.proofs.Common.{◌≡◌, ◌++◌, drop}
use Rattle.link_session.specs.Labelled.{objects}
use Rattle.link_maps.specs.Uses.{uses_from}
use Rattle.link_maps.proofs.uses.put_objects.Given as goal

-- the uses so far, and those in the objects that are left
abbrev pub invariant-loop-object : goal.invariant-loop-object
invariant-loop-object l =
    l.uses.items ++ uses_from l.object (objects (drop l.object l.all)) ≡ l.initial.uses.items ++ uses_from 0 (objects l.all)
