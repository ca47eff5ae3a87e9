use Rattle.std.proofs.Common.{◌++◌, refl, sym, ◌∙◌, ap}
use Rattle.aout_core.specs.{Encoding.reloc_encoding, internal.Fronts.{to_relocation, to_table}}
use Rattle.aout_core.proofs.OutgoingLemmas.{broke_then, puts_then}
use Rattle.aout_core.proofs.writer.put_relocated.Goals as goal

pub returns-in_err-put_words-clause-bytes : goal.returns-in_err-put_words-clause-bytes
returns-in_err-put_words-clause-bytes g c =
    let f = c.args.file.now in
    broke_then c.from_residual.result _ _ c.args.outgoing.now _ (to_relocation f) (reloc_encoding f.text_reloc ++ reloc_encoding f.data_reloc)
    (to_table f) refl c.from_residual.ensures.0 c.in_err-put_words.ensures.bytes

pub returns-clause-bytes : goal.returns-clause-bytes
returns-clause-bytes g c =
    let f = c.args.file.now in
    puts_then c.put_both.result _ _ _ c.args.outgoing.now c.put_words.new.outgoing c.put_both.new.outgoing (to_relocation f)
    (reloc_encoding c.text_reloc.result.now ++ reloc_encoding c.data_reloc.result.now) (to_table f)
    (sym (ap (λ rs. to_relocation f ++ (reloc_encoding rs ++ reloc_encoding c.data_reloc.result.now)) c.text_reloc.ensures.value
    ∙ ap (λ rs. to_relocation f ++ (reloc_encoding f.text_reloc ++ reloc_encoding rs)) c.data_reloc.ensures.value))
    c.in_ok-put_words.ensures.bytes c.put_both.ensures.bytes
