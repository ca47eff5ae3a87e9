use Rattle.std.proofs.Common.{◌≡◌, take, Ok}
use Rattle.link_session.specs.Labelled.{objects}
use Rattle.libv7.specs.LinkAnswers.{each_of, taken_each}
use Rattle.libv7.proofs.run_call.take_each.Given as goal

-- the objects so far are those of the parts so far
abbrev pub invariant-loop-place : goal.invariant-loop-place
invariant-loop-place l = record {
  forced : l.session.forced ≡ l.forced;
  taken : taken_each l.session.forced (each_of (take l.place l.parts)) ≡ Ok (objects l.session.entries);
}
