use Rattle.std.proofs.Common.{◌≡◌, ◌/◌, true, length, [], rules, arith}
use Rattle.tool_options.specs.ForcedNames.{takes}
use Rattle.libv7.specs.LinkRequests.{with_names}
use Rattle.libv7.proofs.ForcedNameLemmas.{one_more_name}
use Rattle.libv7.proofs.requests.forced_names.Goals as goal

pub loop-i-preserved : goal.loop-i-preserved
loop-i-preserved c =
    let taken : takes c.loop-i.forced c.from_bytes.result ≡ true = search rules in (
      omega (arith, c.split_at.ensures.back_len, c.loop-i.invariant.0),
      one_more_name (with_names (length c.args.bytes.now / 8) 0 [] c.args.bytes.now)
          (length c.args.bytes.now / 8) c.loop-i.i c.loop-i.forced c.push.new.self c.from_bytes.result c.loop-i.rest.now
          c.split_at.result.0.now c.split_at.result.1.now c.loop-i-test.true c.loop-i.invariant.1
          c.split_at.ensures.front c.split_at.ensures.back c.from_bytes.ensures taken c.push.ensures.names,
    )
