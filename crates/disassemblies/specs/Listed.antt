-- The lines that a listing shows: each ends before the next label, so that instructions begin anew at each symbol of text.
--
-- If a symbol names a later word of the line that the words at a place begin, that line is cut: its first word is a line of its own.
use Rattle.std.specs.{Prelude.{ℕ, zero, suc, ◌+◌, ◌-◌, ◌*◌, Bool, true, false, ◌||◌, if◌then◌else◌, List, slice_index}, List.list_any}
use Rattle.aout_core.specs.{declared.symbol.Symbol.Symbol, declared.symbol.Segment.TheVariants.TextSeg, Contents.Contents}
use Rattle.instructions.specs.{declared.unix.Decoder.Decoder, declared.line.Line.TheVariants.Plain, UnixLines.unix_length}
use Rattle.instructions.specs.{declared.unix.UnixLine.UnixLine, declared.unix.UnixLine.TheVariants.Machine}
use Rattle.disassemblies.specs.{Naming.is_at, Lines.unix_line_in}

-- a symbol names the word of text at a place
abbrev pub has_label : List Symbol → ℕ → Bool
has_label symbols place = list_any (λ s. is_at TextSeg (2 * place) s) symbols

-- a symbol names one of so many words from a place on
abbrev pub have_label : List Symbol → ℕ → ℕ → Bool
have_label symbols place zero = false
have_label symbols place (suc n) = has_label symbols place || have_label symbols (place + 1) n

-- the line at a place, which the words there begin, if no label cuts it
abbrev pub uncut : Contents → ℕ → UnixLine → UnixLine
uncut c place line =
    if have_label c.symbols (place + 1) (unix_length line - 1) then Machine (Plain (slice_index c.text_words place)) else line

abbrev pub listed_line : Decoder → Contents → ℕ → UnixLine
listed_line d c place = uncut c place (unix_line_in d c place)

abbrev pub is_plain_line : UnixLine → Bool
is_plain_line (Machine (Plain w)) = true
is_plain_line _ = false
