use Rattle.std.proofs.Common.{◌++◌, sym, ◌∙◌, ap}
use Rattle.aout_core.specs.{Words.all_word_bytes, Encoding.header_encoding, internal.Fronts.to_relocation}
use Rattle.aout_core.proofs.OutgoingLemmas.{broke_then, puts_then}
use Rattle.aout_core.proofs.writer.put_words.Goals as goal

pub returns-in_err-put-clause-bytes : goal.returns-in_err-put-clause-bytes
returns-in_err-put-clause-bytes g c =
    let f = c.args.file.now in
    let words = all_word_bytes f.text_words ++ all_word_bytes f.data_words in
    broke_then c.from_residual.result _ _ c.args.outgoing.now _ c.to_bytes.result words (to_relocation f)
    (sym (ap (λ h. h ++ words) (c.to_bytes.ensures ∙ ap header_encoding c.header.ensures.value))) c.from_residual.ensures.0
    c.in_err-put.ensures.bytes

pub returns-clause-bytes : goal.returns-clause-bytes
returns-clause-bytes g c =
    let f = c.args.file.now in
    let words = all_word_bytes c.text_words.result.now ++ all_word_bytes c.data_words.result.now in
    puts_then c.put_both.result _ _ _ c.args.outgoing.now c.put.new.self c.put_both.new.outgoing c.to_bytes.result words (to_relocation f)
    (sym (ap (λ h. h ++ words) (c.to_bytes.ensures ∙ ap header_encoding c.header.ensures.value)
    ∙ ap (λ ws. header_encoding f.header ++ (all_word_bytes ws ++ all_word_bytes c.data_words.result.now)) c.text_words.ensures.value
    ∙ ap (λ ws. header_encoding f.header ++ (all_word_bytes f.text_words ++ all_word_bytes ws)) c.data_words.ensures.value))
    c.in_ok-put.ensures.bytes c.put_both.ensures.bytes
