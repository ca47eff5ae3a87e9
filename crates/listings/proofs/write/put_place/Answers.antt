use Rattle.std.proofs.Common.{◌≡◌, ℕ, List, ◌++◌, ◌∙◌, ap, rules}
use Rattle.texts.specs.Numbers.{six_digits}
use Rattle.listings.proofs.WriteLemmas.{place_row}
use Rattle.listings.proofs.write.put_place.Goals as goal

pub returns : goal.returns
returns c = λ uncut.
    let put = c.put_bytes.ensures uncut in
    let at : c.six_digits-a.result ≡ six_digits c.args.at = search rules in
    let word : c.six_digits-w.result ≡ six_digits c.args.word = search rules in (
      put.0,
      put.1 ∙ ap (λ (row : List ℕ). c.args.text.now.bytes ++ row)
          (place_row c.args.at c.args.word c.six_digits-a.result c.six_digits-w.result at word),
    )
