use Rattle.std.proofs.Common.{◌++◌}
use Rattle.listings.proofs.SaidLemmas.{skipped_append, more_lines}
use Rattle.listings.proofs.said.put_notes.Goals as goal

pub loop-note-preserved : goal.loop-note-preserved
loop-note-preserved c = λ uncut.
    let e2 = c.put_note.ensures uncut in
    let e1 = c.loop-note.invariant e2.0 in
    let xs = e1.1.0 in
    let ys = e2.1.0 in
    (e1.0, (xs ++ ys, skipped_append xs ys e1.1.1 e2.1.1, more_lines _ _ _ xs ys e1.1.2 e2.1.2))
