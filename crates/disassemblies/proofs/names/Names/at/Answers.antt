use Rattle.std.proofs.Common.{ℕ, ◌+◌, ◌∙◌, ap}
use Rattle.std.specs.List.{filter}
use Rattle.disassemblies.specs.internal.Ordered.{is_between}
use Rattle.disassemblies.proofs.OrderedLemmas.{at_is}
use Rattle.disassemblies.proofs.names.Names.at.Goals as goal

pub returns : goal.returns
returns c =
    let names = c.args.self.now in
    c.between.ensures
    ∙ ap (λ (a : ℕ). filter (λ s. is_between c.args.segment a (a + 1) s) names.ordered.items) c.from-address.ensures
    ∙ at_is names.symbols.now names.ordered.items c.args.segment c.args.address names.are_ordered
