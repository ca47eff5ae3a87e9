use Rattle.std.proofs.{Common.rules, lemmas.List.Sorted.answers_always, lemmas.Result.on_ok_weaker}
use Rattle.symtools.proofs.OrderLemmas.{name_of, sorted_by_name}
use Rattle.symtools.proofs.listing.sort_by_name.Goals as goal

pub returns-clause-sorted : goal.returns-clause-sorted
returns-clause-sorted c =
    let keys = answers_always _ _ _ (λ f a r next called. search rules) in
    let stable = c.sort_by_key.ensures.stable name_of keys in
    on_ok_weaker c.sort_by_key.result (λ sorted. sorted_by_name _ _ (sorted name_of keys) stable) c.sort_by_key.ensures.sorted
