use Rattle.std.proofs.Common.{◌≡◌, ℕ, ◌-◌, ◌&&◌, not, List, length, take, drop, sym, ◌∙◌, ap, subst}
use Rattle.std.proofs.lemmas.List.{take_rest}
use Rattle.std.specs.List.{filter}
use Rattle.aout_core.specs.declared.symbol.Symbol.{Symbol}
use Rattle.disassemblies.specs.internal.Ordered.{is_before, is_between}
use Rattle.disassemblies.proofs.OrderedLemmas.{filter_twice}
use Rattle.disassemblies.proofs.names.Names.between.Goals as goal

pub returns : goal.returns
returns c =
    let n : ℕ = c.number-number.result in
    let i : ℕ = c.count_before.result in
    let ordered : List Symbol = c.deref.result.now in
    let alike : c.deref-2.result.now ≡ ordered = c.deref-2.ensures.value ∙ sym c.deref.ensures.value in
    let rest : drop i ordered ≡ filter (λ s. not (is_before n c.args.from s)) ordered =
    subst (λ (ss : List Symbol). drop i ss ≡ filter (λ s. not (is_before n c.args.from s)) ss) alike c.count_before.ensures.rest in
    c.count_near.ensures.front
    ∙ ap (filter (λ s. is_before n c.args.to s)) (take_rest ordered i ∙ rest)
    ∙ filter_twice (λ s. not (is_before n c.args.from s)) (λ s. is_before n c.args.to s) ordered
    ∙ ap (λ (m : ℕ). filter (λ s. not (is_before m c.args.from s) && is_before m c.args.to s) ordered) c.number-number.ensures.value
    ∙ ap (filter (λ s. is_between c.args.segment c.args.from c.args.to s)) c.deref.ensures.value
