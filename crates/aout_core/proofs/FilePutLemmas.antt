-- The encoding of a file ends with its symbols.
use Rattle.std.proofs.Common.{◌≡◌, ◌++◌, sym, ◌∙◌, ap, append_assoc}
use Rattle.std.specs.List.{flat_map}
use Rattle.aout_core.specs.Encoding.{header_encoding, reloc_encoding, symbol_encoding, encoding}
use Rattle.aout_core.specs.{Words.all_word_bytes, Contents.Contents, internal.Fronts.to_relocation, internal.Fronts.to_table}

pub at_table : (c : Contents) → encoding c ≡ to_table c ++ flat_map symbol_encoding c.symbols
at_table c =
    let h = header_encoding c.header in
    let T = all_word_bytes c.text_words in
    let D = all_word_bytes c.data_words in
    let R = reloc_encoding c.text_reloc in
    let Q = reloc_encoding c.data_reloc in
    let S = flat_map symbol_encoding c.symbols in
    ap (λ l. h ++ (T ++ (D ++ l))) (sym (append_assoc R Q S))
    ∙ ap (λ l. h ++ l) (sym (append_assoc T D (R ++ Q ++ S)))
    ∙ sym (append_assoc h (T ++ D) (R ++ Q ++ S))
    ∙ sym (append_assoc (to_relocation c) (R ++ Q) S)
