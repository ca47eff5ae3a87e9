use Rattle.std.proofs.{Common.{◌≡◌, refl, ◌++◌, ◌*◌, ◌/◌, ap, ◌∙◌, subst, sym, rules}, lemmas.Result.{IfErr-weaker, IfOk-weaker}}
use Rattle.std.specs.Prelude.{Err, IfErr}
use Rattle.aout_core.specs.{internal.Rows.{row_in, word_in, reloc_in}, Contents.Contents, internal.ReadParts.IsBodyRead, Decoding.symbol_in}
use Rattle.aout_core.specs.{Parts.contents_of, internal.Blocks.{Awaited, Takes}}
use Rattle.aout_core.proofs.{BodyLemmas.{AreRows, all_rows, rows_are_body}, IncomingLemmas.{unread, ends_in_body, takes_more, took_body}}
use Rattle.aout_core.proofs.reader.read_lists.Goals as goal

pub returns-in_err-take_items-2-clause-end : goal.returns-in_err-take_items-2-clause-end
returns-in_err-take_items-2-clause-end g c =
    let h = c.args.parts.now.header in
    let n = c.body_size.result in
    let a0 = g.R.Read.remaining c.args.wire.now.device in
    let a1 = g.R.Read.remaining c.take_items.new.wire.device in
    let w1 = c.take_items.new.incoming in
    let row1 = c.in_ok-take_items.ensures.value in
    let t1 = subst (λ (w : Awaited). Takes w a0 w1 a1 row1.bytes) c.new-from.ensures row1.takes in
    let end = g.R.Read.remaining c.take_items-2.new.wire.device in
    let same : c.from_residual-in_err-take_items-2.result ≡ Err c.in_err-take_items-2.field-0.0 = search rules in
    subst (λ r. IfErr r (λ fault. IsBodyRead h a0 end (Err fault))) (sym same)
    (ends_in_body c.in_err-take_items-2.field-0.0 h n w1 a0 a1 end (row1.bytes) c.body_size.ensures t1 c.in_err-take_items-2.ensures.end)

pub returns-in_err-take_items-3-clause-end : goal.returns-in_err-take_items-3-clause-end
returns-in_err-take_items-3-clause-end g c =
    let h = c.args.parts.now.header in
    let n = c.body_size.result in
    let a0 = g.R.Read.remaining c.args.wire.now.device in
    let a1 = g.R.Read.remaining c.take_items.new.wire.device in
    let w1 = c.take_items.new.incoming in
    let row1 = c.in_ok-take_items.ensures.value in
    let a2 = g.R.Read.remaining c.take_items-2.new.wire.device in
    let w2 = c.take_items-2.new.incoming in
    let row2 = c.in_ok-take_items-2.ensures.value in
    let t1 = subst (λ (w : Awaited). Takes w a0 w1 a1 row1.bytes) c.new-from.ensures row1.takes in
    let t2 = takes_more (unread n) w1 w2 a0 a1 a2 (row1.bytes) row2.bytes t1 row2.takes in
    let end = g.R.Read.remaining c.take_items-3.new.wire.device in
    let same : c.from_residual-in_err-take_items-3.result ≡ Err c.in_err-take_items-3.field-0.0 = search rules in
    subst (λ r. IfErr r (λ fault. IsBodyRead h a0 end (Err fault))) (sym same)
    (ends_in_body c.in_err-take_items-3.field-0.0 h n w2 a0 a2 end
    ((row1.bytes) ++ row2.bytes) c.body_size.ensures t2 c.in_err-take_items-3.ensures.end)

pub returns-in_err-take_items-4-clause-end : goal.returns-in_err-take_items-4-clause-end
returns-in_err-take_items-4-clause-end g c =
    let h = c.args.parts.now.header in
    let n = c.body_size.result in
    let a0 = g.R.Read.remaining c.args.wire.now.device in
    let a1 = g.R.Read.remaining c.take_items.new.wire.device in
    let w1 = c.take_items.new.incoming in
    let row1 = c.in_ok-take_items.ensures.value in
    let a2 = g.R.Read.remaining c.take_items-2.new.wire.device in
    let w2 = c.take_items-2.new.incoming in
    let row2 = c.in_ok-take_items-2.ensures.value in
    let a3 = g.R.Read.remaining c.take_items-3.new.wire.device in
    let w3 = c.take_items-3.new.incoming in
    let row3 = c.in_ok-take_items-3.ensures.value in
    let t1 = subst (λ (w : Awaited). Takes w a0 w1 a1 row1.bytes) c.new-from.ensures row1.takes in
    let t2 = takes_more (unread n) w1 w2 a0 a1 a2 (row1.bytes) row2.bytes t1 row2.takes in
    let t3 = takes_more (unread n) w2 w3 a0 a2 a3 ((row1.bytes) ++ row2.bytes) row3.bytes t2 row3.takes in
    let end = g.R.Read.remaining c.take_items-4.new.wire.device in
    let same : c.from_residual-in_err-take_items-4.result ≡ Err c.in_err-take_items-4.field-0.0 = search rules in
    subst (λ r. IfErr r (λ fault. IsBodyRead h a0 end (Err fault))) (sym same)
    (ends_in_body c.in_err-take_items-4.field-0.0 h n w3 a0 a3 end
    (((row1.bytes) ++ row2.bytes) ++ row3.bytes) c.body_size.ensures t3 c.in_err-take_items-4.ensures.end)

pub returns : goal.returns
returns g c =
    let h = c.args.parts.now.header in
    let n = c.body_size.result in
    let a0 = g.R.Read.remaining c.args.wire.now.device in
    let a1 = g.R.Read.remaining c.take_items.new.wire.device in
    let w1 = c.take_items.new.incoming in
    let row1 = c.in_ok-take_items.ensures.value in
    let a2 = g.R.Read.remaining c.take_items-2.new.wire.device in
    let w2 = c.take_items-2.new.incoming in
    let row2 = c.in_ok-take_items-2.ensures.value in
    let a3 = g.R.Read.remaining c.take_items-3.new.wire.device in
    let w3 = c.take_items-3.new.incoming in
    let row3 = c.in_ok-take_items-3.ensures.value in
    let a4 = g.R.Read.remaining c.take_items-4.new.wire.device in
    let w4 = c.take_items-4.new.incoming in
    let row4 = c.in_ok-take_items-4.ensures.value in
    let a5 = g.R.Read.remaining c.take_items-5.new.wire.device in
    let w5 = c.take_items-5.new.incoming in
    let t1 = subst (λ (w : Awaited). Takes w a0 w1 a1 row1.bytes) c.new-from.ensures row1.takes in
    let t2 = takes_more (unread n) w1 w2 a0 a1 a2 (row1.bytes) row2.bytes t1 row2.takes in
    let t3 = takes_more (unread n) w2 w3 a0 a2 a3 ((row1.bytes) ++ row2.bytes) row3.bytes t2 row3.takes in
    let t4 = takes_more (unread n) w3 w4 a0 a3 a4 (((row1.bytes) ++ row2.bytes) ++ row3.bytes) row4.bytes t3 row4.takes in
    let reserved = c.requires.reserved in
    let first = c.with_relocation-text_reloc.ensures.value in
    let second = c.with_relocation-data_reloc.ensures.value in
    let read : Contents = contents_of (record c.args.parts.now {
      text_words = c.take_items.new.items;
      data_words = c.take_items-2.new.items;
      text_reloc = c.take_items-3.new.items;
      data_reloc = c.take_items-4.new.items;
      symbols = c.take_items-5.new.items;
    }) in record {
      device = search rules;
      value = IfOk-weaker c.take_items-5.result _ _
          (λ done row5.
          let rows : AreRows h row1.bytes row2.bytes row3.bytes row4.bytes row5.bytes read = record {
            header = refl;
            has_text = row1.encoded ∙ ap (λ l. l ++ row_in word_in 2 (h.text_size / 2) row1.bytes) reserved.no_text;
            has_words = row2.encoded ∙ ap (λ l. l ++ row_in word_in 2 (h.data_size / 2) row2.bytes) reserved.no_data;
            has_first =
                row3.encoded ∙ ap (λ l. l ++ row_in reloc_in 2 (c.with_relocation-text_reloc.result / 2) row3.bytes)
                reserved.no_text_reloc ∙ ap (λ k. row_in reloc_in 2 (k / 2) row3.bytes) first;
            has_second =
                row4.encoded ∙ ap (λ l. l ++ row_in reloc_in 2 (c.with_relocation-data_reloc.result / 2) row4.bytes)
                reserved.no_data_reloc ∙ ap (λ k. row_in reloc_in 2 (k / 2) row4.bytes) second;
            has_table = row5.encoded ∙ ap (λ l. l ++ row_in symbol_in 12 (h.symbol_size / 12) row5.bytes) reserved.no_symbols;
            text_size = row1.size;
            data_size = row2.size;
            first_size = row3.size ∙ ap (λ k. 2 * (k / 2)) first;
            second_size = row4.size ∙ ap (λ k. 2 * (k / 2)) second;
            table_size = row5.size;
          } in
          let from_second = takes_more w3 w4 w5 a3 a4 a5 row4.bytes row5.bytes row4.takes row5.takes in
          let from_first = takes_more w2 w3 w5 a2 a3 a5 row3.bytes (row4.bytes ++ row5.bytes) row3.takes from_second in
          let from_words = takes_more w1 w2 w5 a1 a2 a5 row2.bytes (row3.bytes ++ (row4.bytes ++ row5.bytes)) row2.takes from_first in
          let whole =
          takes_more (unread n) w1 w5 a0 a1 a5 row1.bytes (row2.bytes ++ (row3.bytes ++ (row4.bytes ++ row5.bytes))) t1 from_words in
          let body = all_rows row1.bytes row2.bytes row3.bytes row4.bytes row5.bytes in
          let (long, encoded) = rows_are_body h row1.bytes row2.bytes row3.bytes row4.bytes row5.bytes read c.requires.sizes rows in
          record { body = body; long = long; taken = took_body h n w5 a0 a5 body c.body_size.ensures long whole; encoded = encoded })
          c.take_items-5.ensures.value;
      end =
          IfErr-weaker c.take_items-5.result _ _
          (λ fault e. ends_in_body fault h n w4 a0 a4 (g.R.Read.remaining c.take_items-5.new.wire.device)
          ((((row1.bytes) ++ row2.bytes) ++ row3.bytes) ++ row4.bytes) c.body_size.ensures t4 e) c.take_items-5.ensures.end;
    }
