use Rattle.std.proofs.Common.{◌≡◌, ◌++◌, ◌∙◌, length, ap, rules}
use Rattle.aout_core.specs.Names.{padded}
use Rattle.aout_core.proofs.SymbolLemmas.{twelve_laid}
use Rattle.aout_core.proofs.item.SymbolItem.encode.Goals as goal

pub returns : goal.returns
returns c =
    let symbol = c.args.self.now in
    let name : c.copy_from_slice.new.self ≡ padded symbol.name = search rules in
    let long : length c.copy_from_slice.new.self ≡ 8 = search rules in
    let kind = c.encode.ensures in
    let value = c.encode-2.ensures in
    twelve_laid c.copy_from_slice.new.self c.args.bytes.now c.encode.new.bytes c.encode-2.new.bytes long c.requires
    (ap length kind) (ap length value)
    ∙ (λ i. name i ++ (kind i ++ value i))
