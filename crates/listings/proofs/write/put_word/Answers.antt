use Rattle.std.proofs.Common.{[], ◌∷◌, ◌++◌, refl}
use Rattle.listings.specs.Listing.{word_columns, word_line}
use Rattle.listings.proofs.WriteLemmas.{word_bytes}
use Rattle.listings.proofs.write.put_word.Goals as goal

pub returns : goal.returns
returns g c = λ uncut.
    let e4 = c.put_byte.ensures uncut in
    let e3 = c.put_word.ensures e4.0 in
    let e2 = c.put_columns.ensures e3.0 in
    let e1 = c.put_labels.ensures e2.0 in
    let labels = e1.1.0 in
    let said = e3.1.1.0 in
    let place = c.args.place in (
      e1.0,
      (
        labels ++ word_line said place.at c.args.word c.args.reloc ∷ [],
        record { labels = labels; said = said; are_skipped = e1.1.1; is_remark = e3.1.1.1; lines = refl },
        word_bytes c.args.text.now.bytes c.put_labels.new.text.bytes c.put_columns.new.text.bytes c.put_word.new.text.bytes
            c.put_byte.new.self.bytes (word_columns place.at c.args.word c.args.reloc) said e3.1.0 labels e1.1.2 e2.1 e3.1.1.2 e3.1.2 e4.1,
      ),
    )
