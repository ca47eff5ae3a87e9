use Rattle.std.proofs.Common.{arith}
use Rattle.link_session.proofs.PlaceLemmas.{filter_le}
use Rattle.link_out.specs.function.Tables.{is_kept_local}
use Rattle.link_out.proofs.kept_symbols.count_locals.Goals as goal

pub overflow_add-count : goal.overflow_add-count
overflow_add-count c =
    omega (
      arith,
      c.if-count-gt-MOST_ROWS.false,
      c.count_kept-count.ensures,
      c.symbols.ensures.short,
      filter_le (is_kept_local c.args.keep) c.symbols.result.now,
    )
