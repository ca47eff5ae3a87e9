use Rattle.std.proofs.{Common.rules, lemmas.Cmp.nat_list_cmp_total, lemmas.List.MinMax.ranks_by, lemmas.List.Sorted.answers_always}
use Rattle.std.proofs.{lemmas.Result.on_ok_weaker}
use Rattle.symtools.proofs.SortLemmas.{in_order-from_sort}
use Rattle.link_maps.specs.Uses.{name_of, is_before}
use Rattle.link_maps.proofs.uses.sort_by_name.Goals as goal

pub returns : goal.returns
returns c =
    let keys = answers_always _ _ _ (λ f a r next called. search rules) in
    let stable = c.sort_by_key.ensures.stable name_of keys in
    on_ok_weaker c.sort_by_key.result (λ sorted. in_order-from_sort is_before (ranks_by nat_list_cmp_total name_of) _ _
    (sorted name_of keys) stable) c.sort_by_key.ensures.sorted
