use Rattle.std.proofs.Common.{◌≡◌, ◌-◌, take, length}
use Rattle.link_session.specs.{Undo.put_all_back, internal.Fields.image_in, internal.Fields.threads_in, internal.Fields.with_heads_back}
use Rattle.link_session.proofs.undo.undo.Given as goal

-- the marks that are left
abbrev pub invariant-loop-i : goal.invariant-loop-i
invariant-loop-i l = record {
  image : put_all_back l.marks (image_in l.initial.image) ≡ put_all_back (take (length l.marks - l.i) l.marks) (image_in l.image);
  threads : with_heads_back l.marks (threads_in l.initial.image)
      ≡ with_heads_back (take (length l.marks - l.i) l.marks) (threads_in l.image);
}
