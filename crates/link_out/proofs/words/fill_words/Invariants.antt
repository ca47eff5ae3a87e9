use Rattle.std.proofs.Common.{◌≡◌, take}
use Rattle.std.specs.Prelude.{map}
use Rattle.link_out.specs.internal.FromCells.{word_of_cell}
use Rattle.link_out.proofs.words.fill_words.Given as goal

-- the words so far
abbrev pub invariant-loop-n : goal.invariant-loop-n
invariant-loop-n l = take l.n l.words ≡ map (word_of_cell l.bases l.finals l.segment) (take l.n l.cells)
