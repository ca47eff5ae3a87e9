use Rattle.std.proofs.Common.{◌∙◌, sym, subst, arith, rules}
use Rattle.std.specs.Io.KnownBytes.{Appends}
use Rattle.aout_core.specs.Wires.{AppendsPrefix}
use Rattle.aout_core.proofs.PutsLemmas.{writes_in_part}
use Rattle.link_session.specs.Undo.{image_of}
use Rattle.v7tools.specs.internal.StepParts.{missing_line}
use Rattle.v7tools.proofs.ListingLemmas.{sent_next, stops_next, sent_all, missing-text}
use Rattle.v7tools.proofs.session.externals.put_undefined.Goals as goal

pub returns-in_err-put_if_missing : goal.returns-in_err-put_if_missing
returns-in_err-put_if_missing g c =
    let s = c.args.session.now in
    let old = g.W.Write.contents c.args.answers.now.device in
    let mid = g.W.Write.contents c.loop-index.answers.device in
    let new = g.W.Write.contents c.put_if_missing.new.answers.device in
    let entry = c.unwrap-name.result in
    writes_in_part c.from_residual-in_err-put_if_missing.ensures.0 (search rules) (search rules)
    (subst (AppendsPrefix old new) (missing-text s.forced s.entries)
    (stops_next missing_line (image_of s).externals c.loop-index.index (entry.0, entry.1) old mid new
    (sym c.external.ensures ∙ c.unwrap-name.ensures) c.loop-index.invariant.gone c.in_err-put_if_missing.ensures.bytes))

pub loop-index-preserved : goal.loop-index-preserved
loop-index-preserved g c =
    let old = g.W.Write.contents c.args.answers.now.device in
    let mid = g.W.Write.contents c.loop-index.answers.device in
    let new = g.W.Write.contents c.put_if_missing.new.answers.device in
    let entry = c.unwrap-name.result in
    record {
      unlatched = search rules;
      gone =
          sent_next missing_line (image_of c.args.session.now).externals c.loop-index.index (entry.0, entry.1) old mid new
          (sym c.external.ensures ∙ c.unwrap-name.ensures) c.loop-index.invariant.gone c.in_ok-put_if_missing.ensures.bytes;
    }

pub returns : goal.returns
returns g c =
    let s = c.args.session.now in
    let old = g.W.Write.contents c.args.answers.now.device in
    let now = g.W.Write.contents c.loop-index.answers.device in
    record {
      fault = search rules;
      latched = search rules;
      bytes =
          subst (Appends old now) (missing-text s.forced s.entries)
          (sent_all missing_line (image_of s).externals c.loop-index.index old now (omega arith) c.loop-index.invariant.gone);
    }
