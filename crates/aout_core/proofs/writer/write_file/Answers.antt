use Rattle.std.proofs.Common.{◌++◌, subst, rules}
use Rattle.aout_core.specs.{Encoding.encoding, internal.Blocks.AppendsBut}
use Rattle.aout_core.proofs.OutgoingLemmas.{put_at_last}
use Rattle.aout_core.proofs.writer.write_file.Goals as goal

pub returns : goal.returns
returns g c =
    let f = c.args.file.now in
    let a = g.W.Write.contents c.args.wire.now.device in
    let b = g.W.Write.contents c.put_file.new.wire.device in
    let sent = subst (λ l. AppendsBut a b c.put_file.new.outgoing (l ++ encoding f)) c.new-outgoing.ensures c.in_ok-put_file.ensures.bytes in
    record {
      fault = search rules;
      latched = search rules;
      bytes = put_at_last c.finish.result a b (g.W.Write.contents c.finish.new.wire.device) c.put_file.new.outgoing (encoding f) sent
          c.finish.ensures.bytes;
    }
