use Rattle.std.proofs.{Common.rules, Common.{ℕ, ◌-◌, List, length, take, drop}, lemmas.List.take_rest}
use Rattle.std.proofs.lemmas.List.Sorted.{IsNonDecreasingBy-from_sort, IsNonDecreasingBy-drop, IsNonDecreasingBy-take, IsPartitionedBy-ltb}
use Rattle.std.proofs.lemmas.List.Sorted.{IsPartitionedBy-leb, IsPartitionPoint-from_clause}
use Rattle.std.specs.Prelude.{nat_lt, nat_le}
use Rattle.link_maps.specs.{internal.Keys.key_of, declared.leads.Lead.Lead}
use Rattle.link_maps.proofs.KeyLemmas.{with_number}
use Rattle.link_maps.proofs.keys.with_key.Goals as goal

pub returns : goal.returns
returns c =
    let n : Lead → ℕ = key_of c.args.symbols.now in
    let t : ℕ = c.args.key in
    let leads : List Lead = c.args.leads.now in
    let i : ℕ = c.partition_point.result in
    let size : ℕ = length leads - i in
    let rest : List Lead = take size (drop i leads) in
    let up = IsNonDecreasingBy-from_sort n leads c.requires in
    with_number n leads rest t i c.partition_point-2.result (take_rest leads i) c.partition_point.ensures.bound c.partition_point-2.ensures.bound
    (IsPartitionPoint-from_clause (λ l. nat_lt (n l) t) leads i c.partition_point.ensures.partitioned (IsPartitionedBy-ltb n leads t up)
    (λ a r next called. search rules))
    (IsPartitionPoint-from_clause (λ l. nat_le (n l) t) rest c.partition_point-2.result c.partition_point-2.ensures.partitioned
    (IsPartitionedBy-leb n rest t (IsNonDecreasingBy-take n size (drop i leads) (IsNonDecreasingBy-drop n i leads up)))
    (λ a r next called. search rules))
