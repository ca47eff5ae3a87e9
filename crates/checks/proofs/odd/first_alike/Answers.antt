use Rattle.std.proofs.Common.{◌≡◌, true, rules}
use Rattle.std.specs.{BTreeMap.get, Cmp.Lexicographic.slice_cmp, Ordering.nat_cmp}
use Rattle.checks.proofs.SymbolLemmas.{asked_noted}
use Rattle.checks.proofs.odd.first_alike.Goals as goal

pub returns-clause-noted : goal.returns-clause-noted
returns-clause-noted c =
    let asked : c.args.is_asked ≡ true = search rules in
    asked_noted c.first_noted.result c.args.is_asked c.args.name c.args.number (get (slice_cmp nat_cmp) c.args.seen.now)
    (get (slice_cmp nat_cmp) c.first_noted.new.seen) asked c.first_noted.ensures.noted
