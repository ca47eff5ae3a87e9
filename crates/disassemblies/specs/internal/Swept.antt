-- The lines of a text, each at its first word.
use Rattle.std.specs.Prelude.{ℕ, ◌-◌, List, [], ◌∷◌, replicate, Option, Some, None}
use Rattle.aout_core.specs.Contents.{Contents}
use Rattle.instructions.specs.{declared.unix.Decoder.Decoder, declared.unix.UnixLine.UnixLine}
use Rattle.disassemblies.specs.{Listed.listed_line, Starts.by_lines}

-- the first word of a line of so many, and its others
abbrev pub line_words : UnixLine → ℕ → List (Option UnixLine)
line_words line n = Some line ∷ replicate (n - 1) None

-- for each word of the text the line that begins there, if one does
abbrev pub swept : Decoder → Contents → List (Option UnixLine)
swept d c = by_lines d c (λ place n. line_words (listed_line d c place) n) []
