use Rattle.std.proofs.Common.{◌≡◌, ◌++◌, map}
use Rattle.link_out.specs.{Runs.change_of, internal.MadeEdits.AreDone}
use Rattle.link_out.proofs.runner.replies_to.Given as goal

-- the edits so far are done
abbrev pub invariant-loop-edit : goal.invariant-loop-edit
invariant-loop-edit l = record {
  done : AreDone l.initial.session l.session (map change_of l.yielded) l.replies.items;
  order : l.fn.edits.items ≡ l.yielded ++ l.edit-iterator.rest.items;
}
