use Rattle.std.proofs.Common.{sym, ◌∙◌, arith}
use Rattle.disassemblies.specs.internal.Ordered.{is_before}
use Rattle.disassemblies.proofs.OrderedLemmas.{partitioned, none_before, one_before, front_is, rest_is}
use Rattle.disassemblies.proofs.names.count_near.Goals as goal

pub returns-then-is_before-2-clause-front : goal.returns-then-is_before-2-clause-front
returns-then-is_before-2-clause-front c = front_is (is_before c.args.number c.args.value) c.args.ordered.now 1
    (one_before (is_before c.args.number c.args.value) c.args.ordered.now c.index-ordered-0.result c.index-ordered-1.result
    (partitioned c.args.number c.args.value c.args.ordered.now c.requires) (omega (arith, c.if-ordered-lt2.false))
    c.index-ordered-0.is c.index-ordered-1.is (sym c.is_before-2.ensures ∙ c.if-is_before-2.true) (sym c.is_before.ensures ∙ c.if-is_before.false))

pub returns-then-is_before-2-clause-rest : goal.returns-then-is_before-2-clause-rest
returns-then-is_before-2-clause-rest c = rest_is (is_before c.args.number c.args.value) c.args.ordered.now 1
    (one_before (is_before c.args.number c.args.value) c.args.ordered.now c.index-ordered-0.result c.index-ordered-1.result
    (partitioned c.args.number c.args.value c.args.ordered.now c.requires) (omega (arith, c.if-ordered-lt2.false))
    c.index-ordered-0.is c.index-ordered-1.is (sym c.is_before-2.ensures ∙ c.if-is_before-2.true) (sym c.is_before.ensures ∙ c.if-is_before.false))

pub returns-clause-front : goal.returns-clause-front
returns-clause-front c = front_is (is_before c.args.number c.args.value) c.args.ordered.now 0
    (none_before (is_before c.args.number c.args.value) c.args.ordered.now c.index-ordered-0.result
    (partitioned c.args.number c.args.value c.args.ordered.now c.requires) (omega (arith, c.if-ordered-lt2.false))
    c.index-ordered-0.is (sym c.is_before-2.ensures ∙ c.if-is_before-2.false))

pub returns-clause-rest : goal.returns-clause-rest
returns-clause-rest c = rest_is (is_before c.args.number c.args.value) c.args.ordered.now 0
    (none_before (is_before c.args.number c.args.value) c.args.ordered.now c.index-ordered-0.result
    (partitioned c.args.number c.args.value c.args.ordered.now c.requires) (omega (arith, c.if-ordered-lt2.false))
    c.index-ordered-0.is (sym c.is_before-2.ensures ∙ c.if-is_before-2.false))
