-- Blanks, which fill a column.
use Rattle.std.specs.Prelude.{ℕ, List, replicate}

abbrev pub blanks : ℕ → List ℕ
blanks n = replicate n 32
