use Rattle.std.proofs.Common.{refl, ◌++◌, ◌/◌, ap, ◌∙◌, rules}
use Rattle.aout_core.specs.{internal.Rows.{row_in, word_in, reloc_in}, Contents.Contents, Decoding.symbol_in, Parts.contents_of}
use Rattle.aout_core.proofs.BodyLemmas.{AreRows, rows_are_file, split_there}
use Rattle.aout_core.proofs.reader.fill_lists.Goals as goal

pub returns : goal.returns
returns c =
    let h = c.args.parts.now.header in
    let reserved = c.requires.reserved in
    let bytes = c.args.bytes.now in
    let text = c.split_at-2.result.0.now in
    let words = c.split_at-3.result.0.now in
    let first = c.split_at-4.result.0.now in
    let second = c.split_at-5.result.0.now in
    let table = c.split_at-6.result.0.now in
    let read : Contents = contents_of (record c.args.parts.now {
      text_words = c.read_items.new.items;
      data_words = c.read_items-2.new.items;
      text_reloc = c.read_items-3.new.items;
      data_reloc = c.read_items-4.new.items;
      symbols = c.read_items-5.new.items;
    }) in
    let one = c.with_relocation-text_reloc.ensures.value in
    let two = c.with_relocation-data_reloc.ensures.value in
    let rows : AreRows h text words first second table read = record {
      header = refl;
      has_text = c.read_items.ensures.items ∙ ap (λ l. l ++ row_in word_in 2 (h.text_size / 2) text) reserved.no_text;
      has_words = c.read_items-2.ensures.items ∙ ap (λ l. l ++ row_in word_in 2 (h.data_size / 2) words) reserved.no_data;
      has_first = c.read_items-3.ensures.items
          ∙ ap (λ l. l ++ row_in reloc_in 2 (c.with_relocation-text_reloc.result / 2) first) reserved.no_text_reloc
          ∙ ap (λ k. row_in reloc_in 2 (k / 2) first) one;
      has_second = c.read_items-4.ensures.items
          ∙ ap (λ l. l ++ row_in reloc_in 2 (c.with_relocation-data_reloc.result / 2) second) reserved.no_data_reloc
          ∙ ap (λ k. row_in reloc_in 2 (k / 2) second) two;
      has_table = c.read_items-5.ensures.items ∙ ap (λ l. l ++ row_in symbol_in 12 (h.symbol_size / 12) table) reserved.no_symbols;
      text_size = search rules;
      data_size = search rules;
      first_size = search rules;
      second_size = search rules;
      table_size = search rules;
    } in
    rows_are_file h bytes c.split_at.result.0.now c.split_at.result.1.now text c.split_at-2.result.1.now words c.split_at-3.result.1.now
    first c.split_at-4.result.1.now second c.split_at-5.result.1.now table c.split_at-6.result.1.now read c.requires.sizes rows
    c.split_at.ensures.front_len
    (split_there 16 bytes _ _ c.split_at.ensures.front c.split_at.ensures.back)
    (split_there h.text_size _ _ _ c.split_at-2.ensures.front c.split_at-2.ensures.back)
    (split_there h.data_size _ _ _ c.split_at-3.ensures.front c.split_at-3.ensures.back)
    (split_there c.with_relocation-text_reloc.result _ _ _ c.split_at-4.ensures.front c.split_at-4.ensures.back)
    (split_there c.with_relocation-data_reloc.result _ _ _ c.split_at-5.ensures.front c.split_at-5.ensures.back)
    (split_there h.symbol_size _ _ _ c.split_at-6.ensures.front c.split_at-6.ensures.back)
