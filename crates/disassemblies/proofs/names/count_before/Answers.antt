use Rattle.std.proofs.{Common.rules, lemmas.List.Sorted.IsPartitionPoint-from_clause}
use Rattle.std.specs.List.Sorted.{IsPartitionPoint}
use Rattle.std.specs.Prelude.{◌≡◌, true, false}
use Rattle.disassemblies.specs.internal.Ordered.{is_before}
use Rattle.disassemblies.proofs.OrderedLemmas.{partitioned, front_is, rest_is}
use Rattle.disassemblies.proofs.names.count_before.Goals as goal

pub returns-clause-front : goal.returns-clause-front
returns-clause-front c =
    front_is (is_before c.args.number c.args.value) c.args.ordered.now c.partition_point.result
    (IsPartitionPoint-from_clause (is_before c.args.number c.args.value) c.args.ordered.now c.partition_point.result
    c.partition_point.ensures.partitioned (partitioned c.args.number c.args.value c.args.ordered.now c.requires)
    (λ a r next called. search rules))

pub returns-clause-rest : goal.returns-clause-rest
returns-clause-rest c =
    rest_is (is_before c.args.number c.args.value) c.args.ordered.now c.partition_point.result
    (IsPartitionPoint-from_clause (is_before c.args.number c.args.value) c.args.ordered.now c.partition_point.result
    c.partition_point.ensures.partitioned (partitioned c.args.number c.args.value c.args.ordered.now c.requires)
    (λ a r next called. search rules))
