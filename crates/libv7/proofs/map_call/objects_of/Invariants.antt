use Rattle.std.proofs.Common.{◌≡◌, take, Ok}
use Rattle.link_session.specs.Labelled.{objects}
use Rattle.link_maps.specs.Members.{all_of}
use Rattle.libv7.specs.{LinkAnswers.each_of, MapAnswers.AreTaken, MapAnswers.objects_each}
use Rattle.libv7.proofs.map_call.objects_of.Given as goal

-- the objects so far are those of the parts so far
abbrev pub invariant-loop-place : goal.invariant-loop-place
invariant-loop-place l = record {
  read : objects_each (each_of (take l.place l.parts)) ≡ Ok (objects (all_of l.all));
  taken : AreTaken l.forced (objects (all_of l.all)) l.all;
}
