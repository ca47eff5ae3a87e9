use Rattle.std.proofs.Common.{ℕ, List, ◌∷◌, ◌++◌, refl, subst, ◌∙◌, ap}
use Rattle.std.specs.Prelude.{codes}
use Rattle.aout_core.specs.{declared.header.Header.Header, declared.symbol.Symbol.Symbol, Addresses.data_start_in}
use Rattle.texts.specs.Lines.{text_of}
use Rattle.listings.specs.Listing.{AreWords, AreSymbols, head_lines, bss_lines}
use Rattle.listings.proofs.WriteLemmas.{whole}
use Rattle.listings.proofs.write.put_before_end.Goals as goal

pub returns : goal.returns
returns g c = λ uncut.
    let file = c.args.file.now in
    let h = file.header in
    let e10 = c.put_notes-2.ensures uncut in
    let e9 = c.put_symbols.ensures e10.0 in
    let e8 = c.put-3.ensures e9.0 in
    let e7 = c.put_bss.ensures e8.0 in
    let e6 = c.put_words-2.ensures e7.0 in
    let e5 = c.put-2.ensures e6.0 in
    let e4 = c.put_words.ensures e5.0 in
    let e3 = c.put.ensures e4.0 in
    let e2 = c.put_head.ensures e3.0 in
    let e1 = c.put_notes.ensures e2.0 in
    let notes = e1.1.0 in
    let text = e4.1.0 in
    let datas = e6.1.0 in
    let symbols = e9.1.0 in
    let findings = e10.1.0 in
    let are_text : AreWords 0 file.text_words c.args.text_relocs.now text =
    subst (λ (ws : List ℕ). AreWords 0 ws c.args.text_relocs.now text) c.text_words.ensures.value e4.1.1 in
    let are_data : AreWords (data_start_in h) file.data_words c.args.data_relocs.now datas =
    subst (λ (n : ℕ). AreWords n file.data_words c.args.data_relocs.now datas) (c.data_start.ensures.value ∙ ap data_start_in c.header-header.ensures.value)
    (subst (λ (ws : List ℕ). AreWords c.data_start.result ws c.args.data_relocs.now datas) c.data_words.ensures.value e6.1.1) in
    let are_symbols : AreSymbols 0 file.symbols symbols =
    subst (λ (ss : List Symbol). AreSymbols 0 ss symbols) c.symbols.ensures.value e9.1.1 in
    let bss = e7.1 ∙ ap (λ (k : Header). c.put_words-2.new.text.bytes ++ text_of (bss_lines k)) c.header-header.ensures.value in (
      e1.0,
      (
        notes ++ (head_lines h ++ ((codes "text" ∷ text) ++ ((codes "data" ∷ datas) ++ (bss_lines h ++ ((codes "symbols" ∷ symbols) ++ findings))))),
        record {
          notes = notes;
          text = text;
          «data» = datas;
          symbols = symbols;
          findings = findings;
          are_notes = e1.1.1;
          are_text = are_text;
          are_data = are_data;
          are_symbols = are_symbols;
          are_findings = e10.1.1;
          lines = refl;
        },
        whole c.args.text.now.bytes c.put_notes.new.text.bytes c.put_head.new.text.bytes c.put.new.self.bytes c.put_words.new.text.bytes
            c.put-2.new.self.bytes c.put_words-2.new.text.bytes c.put_bss.new.text.bytes c.put-3.new.self.bytes c.put_symbols.new.text.bytes
            c.put_notes-2.new.text.bytes notes (head_lines h) text datas (bss_lines h) symbols findings
            e1.1.2 e2.1 e3.1 e4.1.2 e5.1 e6.1.2 bss e8.1 e9.1.2 e10.1.2,
      ),
    )
