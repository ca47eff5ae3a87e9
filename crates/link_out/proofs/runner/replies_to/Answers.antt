use Rattle.std.proofs.Common.{◌≡◌, ◌++◌, ◌∷◌, [], map, List, subst, sym}
use Rattle.link_out.specs.{declared.edit.Reply.Reply, Runs.change_of, internal.MadeEdits.AreDone}
use Rattle.link_out.proofs.RunLemmas.{one_more, one_more_done}
use Rattle.link_out.proofs.runner.replies_to.Goals as goal

pub loop-edit-preserved : goal.loop-edit-preserved
loop-edit-preserved c = record {
  done =
      subst (λ (l : List Reply). AreDone c.args.session.now c.reply_to.new.session (map change_of (c.loop-edit.yielded ++ c.in-Some.edit ∷ [])) l)
      (sym c.in_ok-put_reply.ensures)
      (one_more_done c.args.session.now c.loop-edit.session c.reply_to.new.session c.loop-edit.yielded c.in-Some.edit
      c.loop-edit.replies.items c.in_ok-reply.reply c.loop-edit.invariant.done c.in_ok-reply.ensures);
  order =
      one_more c.args.edits.items c.loop-edit.yielded c.loop-edit.edit-iterator.rest.items c.next.new.self.rest.items c.in-Some.edit
      c.loop-edit.invariant.order c.in-Some.ensures.steps.0;
}
