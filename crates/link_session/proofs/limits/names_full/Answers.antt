use Rattle.std.proofs.{Common.◌+◌, Common.◌≤◌, Common.length, Common.sym, Common.◌∙◌, Common.arith, lemmas.Bool.le-ltb}
use Rattle.std.specs.Map.{keys_of}
use Rattle.aout_core.specs.WellFormed.{is_external}
use Rattle.link_session.specs.internal.Additions.{new_count}
use Rattle.link_session.proofs.{PlaceLemmas.filter_le, LimitLemmas.new_count-le}
use Rattle.link_session.proofs.limits.names_full.Goals as goal

pub overflow_add-known : goal.overflow_add-known
overflow_add-known c = omega (arith, c.len-known.ensures.len)

pub overflow_add-result : goal.overflow_add-result
overflow_add-result c =
    omega (arith, new_count-le (keys_of c.args.externals.now.entries) c.args.symbols.now, filter_le is_external c.args.symbols.now)

pub returns-else-known-symbols-gt-MOST_NAMES : goal.returns-else-known-symbols-gt-MOST_NAMES
returns-else-known-symbols-gt-MOST_NAMES c =
    let few = new_count-le (keys_of c.args.externals.now.entries) c.args.symbols.now in
    let below : length c.args.externals.now.entries + new_count (keys_of c.args.externals.now.entries) c.args.symbols.now
    ≤ 65535 = omega (arith, c.len-known.ensures.len, few, filter_le is_external c.args.symbols.now) in
    le-ltb 65535 (c.len-known.result + length c.args.symbols.now) (omega arith) ∙ sym (le-ltb 65535
    (length c.args.externals.now.entries + new_count (keys_of c.args.externals.now.entries) c.args.symbols.now) below)
