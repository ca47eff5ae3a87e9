use Rattle.std.proofs.Common.{◌≡◌, drop}
use Rattle.link_session.specs.internal.Bindings.{bindable_in, settled_all, KeepsRest}
use Rattle.link_session.specs.internal.Fields.{HoldsChains, LeavesMarksIn, NotesBoundIn}
use Rattle.link_session.proofs.bind.bind_waiting.Given as goal

-- what is left to bind, and what the marks so far bring back
abbrev pub invariant-loop-place : goal.invariant-loop-place
invariant-loop-place l = record {
  chained : HoldsChains l.image;
  rest : KeepsRest l.initial.image l.image;
  bound : settled_all l.initial.image.externals.entries l.places (bindable_in l.initial.image)
      ≡ settled_all l.initial.image.externals.entries (drop l.place-index l.places) (bindable_in l.image);
  few : NotesBoundIn l.initial.image l.image l.initial.marks.items l.marks.items;
  back : LeavesMarksIn l.initial.image l.image l.initial.marks.items l.marks.items;
}
