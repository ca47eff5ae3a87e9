use Rattle.std.proofs.Common.{◌∙◌, sym}
use Rattle.disassemblies.proofs.OrderedLemmas.{external_named, first_named}
use Rattle.disassemblies.proofs.names.Names.symbol_at.Goals as goal

pub returns-in-Some : goal.returns-in-Some
returns-in-Some c =
    c.symbol_of.ensures
    ∙ external_named c.args.self.now.symbols.now c.at-symbols.result.now c.args.segment c.args.value c.in-Some.place
    c.at-symbols.ensures (sym c.in-Some.ensures)

pub returns-in-None : goal.returns-in-None
returns-in-None c =
    c.symbol_of-in-None.ensures
    ∙ first_named c.args.self.now.symbols.now c.at-symbols.result.now c.args.segment c.args.value c.at-symbols.ensures
    (sym c.in-None.ensures)
