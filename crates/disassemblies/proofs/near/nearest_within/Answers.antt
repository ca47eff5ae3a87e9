use Rattle.std.proofs.Common.{◌-◌, Option, sym, ◌∙◌, ap}
use Rattle.aout_core.specs.declared.symbol.Symbol.{Symbol}
use Rattle.disassemblies.specs.Near.{bytes_beyond}
use Rattle.disassemblies.proofs.NearLemmas.{none_near, near_is}
use Rattle.disassemblies.proofs.near.nearest_within.Goals as goal

pub returns-in-Some : goal.returns-in-Some
returns-in-Some c =
    c.bytes_beyond.ensures
    ∙ ap (λ (s : Option Symbol). bytes_beyond s (c.args.address - c.in-Some.value)) c.symbol_at.ensures
    ∙ sym (near_is c.args.names.now.symbols.now c.args.segment c.args.address c.args.within c.in-Some.value c.in-Some.ensures)

pub returns-in-None : goal.returns-in-None
returns-in-None c = sym (none_near c.args.names.now.symbols.now c.args.segment c.args.address c.args.within c.in-None.ensures)
