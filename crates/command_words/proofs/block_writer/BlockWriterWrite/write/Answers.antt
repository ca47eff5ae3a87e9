use Rattle.std.proofs.{Common.◌∙◌, Common.take, Common.sym, Common.subst, KnownBytes.append_known-grown, KnownBytes.Keeps-refl}
use Rattle.std.specs.Io.KnownBytes.{Keeps, append_known}
use Rattle.command_words.specs.Blocks.{Blocked}
use Rattle.command_words.proofs.block_writer.BlockWriterWrite.write.Goals.{then-waiting-eq-BLOCK_SIZE+in_ok-send}
use Rattle.command_words.proofs.block_writer.BlockWriterWrite.write.Goals.{else-waiting-eq-BLOCK_SIZE}
use Rattle.command_words.proofs.block_writer.BlockWriterWrite.write.Goals as goal

pub returns-clause-bytes : goal.returns-clause-bytes
returns-clause-bytes g c =
    let before = append_known (g.W.Write.contents c.args.self.now.device) c.args.self.now.waiting in
    let device = c.self-2.inside.device in
    let block = c.self-2.inside.block in
    let kept : Keeps before (append_known (g.W.Write.contents device) block) =
    elim c.if-waiting-eq-BLOCK_SIZE.branch [
      | then-waiting-eq-BLOCK_SIZE+in_ok-send w ↦
          subst (λ (s : Blocked _). Keeps before (append_known (g.W.Write.contents s.device) s.waiting))
          (sym (c.self-2.view_is ∙ w.self-is)) w.send.ensures.kept
      | else-waiting-eq-BLOCK_SIZE w ↦
          subst (λ (s : Blocked _). Keeps before (append_known (g.W.Write.contents s.device) s.waiting))
          (sym (c.self-2.view_is ∙ w.self-is)) (Keeps-refl before)
    ] in
    append_known-grown before (g.W.Write.contents device) block c.take_in.new.self
    (take c.take_in.result c.args.buf.now) kept c.take_in.ensures.value
