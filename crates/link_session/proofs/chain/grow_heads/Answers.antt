use Rattle.std.proofs.Common.{◌≡◌, ◌++◌, ◌∷◌, [], length, ◌<◌, ◌≤◌, None, sym, ◌∙◌, ap, rules}
use Rattle.link_session.specs.internal.Threads.{grown_heads}
use Rattle.link_session.proofs.ThreadLemmas.{grown_by_one, grown_enough}
use Rattle.link_session.proofs.chain.grow_heads.Goals as goal

pub loop-heads-preserved : goal.loop-heads-preserved
loop-heads-preserved c =
    let pushed : c.push_reserved.new.self.items ≡ c.loop-heads.heads.items ++ None ∷ [] = search rules in
    let below : length c.loop-heads.heads.items < c.args.count = search rules in
    record {
      heads =
          c.loop-heads.invariant.heads ∙ grown_by_one c.args.count c.loop-heads.heads.items below
          ∙ ap (grown_heads c.args.count) (sym pushed);
      space = search rules;
    }

pub returns : goal.returns
returns c =
    let above : c.args.count ≤ length c.loop-heads.heads.items = search rules in
    sym (c.loop-heads.invariant.heads ∙ grown_enough c.args.count c.loop-heads.heads.items above)
