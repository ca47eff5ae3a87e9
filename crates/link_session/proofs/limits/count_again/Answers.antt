use Rattle.std.proofs.Common.{arith}
use Rattle.std.specs.Map.{keys_of}
use Rattle.aout_core.specs.WellFormed.{is_external}
use Rattle.link_session.proofs.{PlaceLemmas.filter_le, LimitLemmas.new_count-le}
use Rattle.link_session.proofs.limits.count_again.Goals as goal

pub overflow_add-count : goal.overflow_add-count
overflow_add-count c =
    omega (
      arith,
      c.loop-i.invariant,
      new_count-le (keys_of c.args.externals.now.entries) c.args.symbols.now,
      filter_le is_external c.args.symbols.now,
    )
