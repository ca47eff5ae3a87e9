use Rattle.std.proofs.Common.{◌-◌, ◌∙◌, ap, take, drop, rules}
use Rattle.byteorder.specs.Endian.{little_number}
use Rattle.aout_core.proofs.SymbolLemmas.{symbol_in-twelve}
use Rattle.aout_core.proofs.item.SymbolItem.from_slice.Goals as goal

pub returns : goal.returns
returns c =
    let bytes = c.args.bytes.now in
    symbol_in-twelve bytes _ _ _ c.requires (search rules) c.read_u16.ensures
    (c.read_u16-2.ensures ∙ ap (λ n. little_number 2 (take (n - 10) (drop 10 bytes))) c.requires)
