-- The lines of a file's text. (as(1); relocated words: own choice)
--
-- A line is at a place, which counts the words of text. A relocated word begins no instruction, since a link changes it. Other
-- lines are those of the words alone.
use Rattle.std.specs.Prelude.{ℕ, if◌then◌else◌, slice_get, slice_index}
use Rattle.aout_core.specs.Contents.{Contents}
use Rattle.instructions.specs.{declared.line.Line.TheVariants.Plain, declared.unix.Decoder.Decoder, declared.unix.UnixLine.UnixLine}
use Rattle.instructions.specs.{declared.unix.UnixLine.TheVariants.Machine, UnixLines.unix_line_at, Relocated.is_relocated}

abbrev pub unix_line_in : Decoder → Contents → ℕ → UnixLine
unix_line_in d c place =
    if is_relocated (slice_get c.text_reloc place) then Machine (Plain (slice_index c.text_words place))
    else unix_line_at d c.text_words place
