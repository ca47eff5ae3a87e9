use Rattle.std.proofs.Common.{◌≡◌, ℕ, ◌+◌, [], ◌∷◌, length, refl, rules}
use Rattle.std.specs.Prelude.{◌-◌}
use Rattle.texts.specs.{Numbers.octal, Names.printable_name}
use Rattle.listings.specs.Listing.{wide, symbol_line, symbol_numbers}
use Rattle.listings.proofs.WriteLemmas.{symbol_bytes}
use Rattle.listings.proofs.write.put_symbol.Goals as goal

pub returns : goal.returns
returns g c = λ uncut.
    let s = c.args.symbol.now in
    let n = c.args.number in
    let name = printable_name s.name in
    let blanks = wide 8 name + (3 - length (octal s.type_bits)) in
    let e3 = c.put_byte.ensures uncut in
    let e2 = c.put_numbers.ensures e3.0 in
    let e1 = c.put_label.ensures e2.0 in
    let said = e2.1.1.0 in
    let shown : c.deref-2.result.now ≡ name = search rules in
    let far : c.wide.result + c.saturating_sub.result ≡ blanks = search rules in (
      e1.0,
      (
        symbol_line said n s ∷ [],
        (symbol_line said n s, (said, e2.1.1.1, refl), refl),
        symbol_bytes c.args.text.now.bytes c.put_label.new.text.bytes c.put_numbers.new.text.bytes c.put_byte.new.self.bytes
            (octal n) c.deref-2.result.now name (symbol_numbers said s) e2.1.0 (wide 4 (octal n)) (c.wide.result + c.saturating_sub.result) blanks
            shown far e1.1 e2.1.1.2 e2.1.2 e3.1,
      ),
    )
