use Rattle.std.proofs.Common.{◌≡◌, ℕ, ◌+◌, ◌-◌, List, length, Some, None, sym, ◌∙◌, ap, subst}
use Rattle.std.specs.{Prelude.slice_get, List.filter}
use Rattle.aout_core.specs.declared.symbol.Symbol.{Symbol}
use Rattle.disassemblies.specs.internal.Ordered.{is_between}
use Rattle.disassemblies.proofs.OrderedLemmas.{near_ones, nearest_some, nearest_none, empty_by_last}
use Rattle.disassemblies.proofs.names.Names.nearest.Goals as goal

pub returns-in-Some : goal.returns-in-Some
returns-in-Some c =
    let names = c.args.self.now in
    let is : c.between-near.result.now ≡ near_ones names.ordered.items c.args.segment c.args.address c.args.within =
    c.between-near.ensures
    ∙ ap (λ (low : ℕ). filter (λ s. is_between c.args.segment low (c.from-end.result + 1) s) names.ordered.items) c.saturating_sub.ensures
    ∙ ap (λ (a : ℕ). near_ones names.ordered.items c.args.segment a c.args.within) c.from-end.ensures in
    nearest_some names.symbols.now names.ordered.items c.args.segment c.args.address c.args.within c.in-Some.symbol.now names.are_ordered
    (subst (λ (ss : List Symbol). slice_get ss (length ss - 1) ≡ Some c.in-Some.symbol.now) is (sym c.in-Some.ensures.value))

pub returns-in-None : goal.returns-in-None
returns-in-None c =
    let names = c.args.self.now in
    let is : c.between-near.result.now ≡ near_ones names.ordered.items c.args.segment c.args.address c.args.within =
    c.between-near.ensures
    ∙ ap (λ (low : ℕ). filter (λ s. is_between c.args.segment low (c.from-end.result + 1) s) names.ordered.items) c.saturating_sub.ensures
    ∙ ap (λ (a : ℕ). near_ones names.ordered.items c.args.segment a c.args.within) c.from-end.ensures in
    nearest_none names.symbols.now names.ordered.items c.args.segment c.args.address c.args.within names.are_ordered
    (sym is ∙ empty_by_last c.between-near.result.now (sym c.in-None.ensures.value))
