-- How many cells wait for an external, and how many are to be bound.
use Rattle.std.specs.Prelude.{◌≡◌, ℕ, ◌+◌, is_some, List, filter, length}
use Rattle.link_session.specs.{declared.cell.Cell.Cell, declared.mark.Mark.Mark, Image.Named, internal.Additions.binding}
use Rattle.link_session.specs.{internal.Chains.waits_at}

abbrev pub waiting_for : ℕ → List Cell → List Cell
waiting_for k cs = filter (λ c. waits_at k c.target) cs

-- the cells that are to be bound
abbrev pub to_bind : Named → List Cell → List Cell
to_bind es cs = filter (λ c. is_some (binding es c)) cs

-- one more mark for each cell that waits for the external
abbrev pub NotesWaiting : ℕ → List Cell → List Cell → List Mark → List Mark → Type 0
NotesWaiting k texts datas old new = length new ≡ length old + (length (waiting_for k texts) + length (waiting_for k datas))

-- one more mark for each cell that was to be bound and no longer is
abbrev pub NotesBound : Named → List Cell → List Cell → List Cell → List Cell → List Mark → List Mark → Type 0
NotesBound es texts datas new_texts new_datas old new =
    length new + (length (to_bind es new_texts) + length (to_bind es new_datas))
    ≡ length old + (length (to_bind es texts) + length (to_bind es datas))
