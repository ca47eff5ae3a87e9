use Rattle.libv7.proofs.EncodingLemmas.{most_written}
use Rattle.libv7.proofs.encoding.bytes_of.Goals as goal

pub returns-clause-most : goal.returns-clause-most
returns-clause-most c =
    most_written c.args.file.now c.encoded.result c.encoded.ensures (rw c.text_words.ensures.value at c.text_words.ensures.short)
    (rw c.data_words.ensures.value at c.data_words.ensures.short) (rw c.text_reloc.ensures.value at c.text_reloc.ensures.short)
    (rw c.data_reloc.ensures.value at c.data_reloc.ensures.short) (rw c.symbols.ensures.value at c.symbols.ensures.short)
