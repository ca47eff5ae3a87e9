use Rattle.std.proofs.Common.{◌+◌, ◌-◌, take, length, ap, sym, ◌∙◌}
use Rattle.link_session.specs.internal.Fields.{image_in, threads_in, with_heads_back}
use Rattle.link_session.specs.{Image.Image, Undo.put_all_back, internal.Threads.Threads}
use Rattle.link_session.proofs.PutBackLemmas.{put_next, head_next}
use Rattle.link_session.proofs.undo.undo.Goals as goal

pub loop-i-preserved : goal.loop-i-preserved
loop-i-preserved c = record {
  image =
      c.loop-i.invariant.image
      ∙ put_next c.args.marks.now c.loop-i.i _ (image_in c.loop-i.image) c.loop-i-test.true
      ∙ ap (λ (m : Image). put_all_back (take (length c.args.marks.now - (c.loop-i.i + 1)) c.args.marks.now) m)
      (sym c.put_back.ensures.image);
  threads =
      c.loop-i.invariant.threads
      ∙ head_next c.args.marks.now c.loop-i.i _ (threads_in c.loop-i.image) c.loop-i-test.true
      ∙ ap (λ (t : Threads). with_heads_back (take (length c.args.marks.now - (c.loop-i.i + 1)) c.args.marks.now) t)
      (sym c.put_back.ensures.threads);
}
