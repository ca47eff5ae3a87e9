-- What the code has read, by the definitions.
use Rattle.std.specs.Prelude.{ℕ}
use Rattle.listings.specs.{declared.draft.FileDraft.FileDraft, declared.read.Noting.Noting, Reading.State, Reading.Noted}
use Rattle.listings.specs.internal.DraftParts.{draft_of}

abbrev pub noted_of : Noting → Noted
noted_of n = record { first = n.first; others = n.others.items }

abbrev pub state_of : ℕ → FileDraft → Noting → State
state_of number draft noting = record { number = number; draft = draft_of draft; noted = noted_of noting }
