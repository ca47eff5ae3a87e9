use Rattle.std.proofs.Common.{[], ◌∷◌}
use Rattle.listings.proofs.SaidLemmas.{note_skipped, note_bytes}
use Rattle.listings.proofs.said.put_note.Goals as goal

pub returns : goal.returns
returns c = λ uncut.
    let e3 = c.put_byte-2.ensures uncut in
    let e2 = c.put_printed.ensures e3.0 in
    let e1 = c.put_byte.ensures e2.0 in
    let l = e2.1.0 in
    (e1.0, ((47 ∷ l) ∷ [], (note_skipped l e2.1.1, tt), note_bytes _ _ _ _ l e1.1 e2.1.2 e3.1))
