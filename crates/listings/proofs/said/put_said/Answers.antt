use Rattle.std.proofs.Common.{◌≡◌, ℕ, List, [], ◌∷◌, ◌++◌, true, false, refl, arith, rules}
use Rattle.std.specs.{Prelude.{◌≢◌, nat_le}, List.list_all}
use Rattle.listings.specs.{Listing.remarked, Reading.is_numbered}
use Rattle.listings.proofs.SaidLemmas.{plain_line, said_bytes, slash_bytes}
use Rattle.listings.proofs.said.put_said.Goals as goal

pub returns-then-not-is_numbered : goal.returns-then-not-is_numbered
returns-then-not-is_numbered c = λ uncut.
    let said = c.args.said.now in
    let plain : list_all (λ (b : ℕ). nat_le 32 b) said ≡ true = search rules in
    let unnumbered : is_numbered said ≡ false = search rules in
    let some : said ≢ [] = search rules in
    let e2 = c.put_bytes.ensures uncut in
    let e1 = c.put.ensures e2.0 in
    (e1.0, (remarked said, (said, (plain_line said plain, unnumbered), refl), said_bytes _ _ _ said some e1.1 e2.1))

pub returns-else-is_plain : goal.returns-else-is_plain
returns-else-is_plain c = λ uncut.
    let e3 = c.put_printed.ensures uncut in
    let e2 = c.put_byte.ensures e3.0 in
    let e1 = c.put.ensures e2.0 in
    let l = e3.1.0 in
    (e1.0, (remarked (47 ∷ l), (47 ∷ l, ((omega arith, e3.1.1), refl), refl), slash_bytes _ _ _ _ l e1.1 e2.1 e3.1.2))
