use Rattle.std.proofs.Common.{append_assoc}
use Rattle.checks.proofs.odd.find_odd.Goals as goal

pub returns : goal.returns
returns c = λ whole.
    let symbols = c.find_symbols.ensures whole in
    let words = c.find_words-2.ensures symbols.0 in
    let text = c.find_words.ensures words.0 in
    let header = c.find_header.ensures text.0 in (header.0, rw (symbols.1, words.1, text.1, header.1) (simp append_assoc))
