-- What a session knows, as one JSON object. (own choice; JSON: RFC 8259)
--
-- First come the words of the merged text and data, each with its offset in bytes, its value, whether it is relative to `pc`, and what it
-- refers to or waits for. Then come the size of bss, each external with its state, the names that are multiply defined, and what the
-- addition of the last object overwrote, in order.
use Rattle.std.specs.Prelude.{ℕ, ◌*◌, ◌/◌, ◌%◌, Bool, true, false, ◌&&◌, not, nat_lt, eqb, if◌then◌else◌, List, [], ◌∷◌, ◌++◌}
use Rattle.std.specs.{Prelude.length, Prelude.codes, Prelude.decimal, Fmt.digit_glyph, List.flat_map}
use Rattle.aout_core.specs.declared.symbol.Segment.TheVariants as segments
use Rattle.link_session.specs.{declared.cell.Cell.Cell, declared.cell.Target.Target, declared.mark.Mark.Mark}
use Rattle.link_session.specs.declared.cell.Target.TheVariants as targets
use Rattle.link_session.specs.{declared.mark.Mark.TheVariants.{CellWas, StateWas}, declared.mark.Place.Place}
use Rattle.link_session.specs.declared.mark.Place.TheVariants.{InText, InData}
use Rattle.link_session.specs.{declared.state.State.State, declared.state.State.TheVariants.{Defined, Wanted}, Image.Image, Image.Named}
use Rattle.link_session.specs.{Sessions.newest, Undo.Kept, Undo.image_of}
use Rattle.libv7.specs.Items.{each, name_at, named}

-- what an item begins with, by its index: a comma is between items
abbrev pub front_text : ℕ → List ℕ → List ℕ
front_text i words = (if eqb i 0 then [] else codes ",") ++ words

-- a number after what says what it is
abbrev pub valued_text : List ℕ → ℕ → List ℕ
valued_text words n = words ++ decimal n

-- a byte as the character of its number: one that does not print in ASCII, a quote and a backslash are `\u00` and two digits
abbrev pub json_byte : ℕ → List ℕ
json_byte b =
    if nat_lt 31 b && (nat_lt b 127 && (not (eqb b 34) && not (eqb b 92))) then b ∷ []
    else codes "\\u00" ++ digit_glyph false (b / 16) ∷ digit_glyph false (b % 16) ∷ []

abbrev pub name_text : List ℕ → List ℕ
name_text name = codes "\"" ++ flat_map json_byte name ++ codes "\""

-- ---- words and states

-- what a word refers to, or waits for
abbrev pub target_text : Named → Target → List ℕ
target_text es targets.Absolute = codes "\"number\""
target_text es targets.TextSeg = codes "\"text\""
target_text es targets.DataSeg = codes "\"data\""
target_text es targets.BssSeg = codes "\"bss\""
target_text es (targets.External i) = codes "\"external\",\"name\":" ++ name_text (name_at es i)

abbrev pub relative_text : Bool → List ℕ
relative_text true = codes ",\"pc\":true,\"target\":"
relative_text false = codes ",\"pc\":false,\"target\":"

abbrev pub cell_text : Named → Cell → List ℕ
cell_text es c = valued_text (codes "\"value\":") c.value ++ relative_text c.pc ++ target_text es c.target

-- what says that a name is undefined, or a common of so many bytes
abbrev pub wanted_words : ℕ → List ℕ
wanted_words size = if eqb size 0 then codes "\"state\":\"undefined\",\"value\":" else codes "\"state\":\"common\",\"value\":"

abbrev pub state_words : State → List ℕ
state_words (Defined segments.TextSeg offset) = codes "\"state\":\"text\",\"value\":"
state_words (Defined segments.DataSeg offset) = codes "\"state\":\"data\",\"value\":"
state_words (Defined segments.BssSeg offset) = codes "\"state\":\"bss\",\"value\":"
state_words (Defined _ number) = codes "\"state\":\"number\",\"value\":"
state_words (Wanted size) = wanted_words size

abbrev pub state_value : State → ℕ
state_value (Defined _ value) = value
state_value (Wanted size) = size

abbrev pub state_text : State → List ℕ
state_text s = valued_text (state_words s) (state_value s)

-- ---- items, each with its index among its like

abbrev pub cell_item : Named → ℕ → Cell → List ℕ
cell_item es i c = front_text i (codes "{\"offset\":") ++ decimal (2 * i) ++ codes "," ++ cell_text es c ++ codes "}"

abbrev pub external_item : ℕ → List ℕ × State → List ℕ
external_item i e = front_text i (codes "{\"name\":") ++ name_text e.0 ++ codes "," ++ state_text e.1 ++ codes "}"

abbrev pub multiple_item : ℕ → List ℕ → List ℕ
multiple_item i name = front_text i [] ++ name_text name

abbrev pub place_text : Place → List ℕ
place_text (InText i) = valued_text (codes "\"segment\":\"text\",\"offset\":") (2 * i)
place_text (InData i) = valued_text (codes "\"segment\":\"data\",\"offset\":") (2 * i)

-- the place or the name of which something was overwritten, and that
abbrev pub mark_text : Named → Mark → List ℕ
mark_text es (CellWas at c) = place_text at ++ codes ",\"was\":{" ++ cell_text es c
mark_text es (StateWas i s) = codes "\"name\":" ++ name_text (name_at es i) ++ codes ",\"was\":{" ++ state_text s

abbrev pub mark_item : Named → ℕ → Mark → List ℕ
mark_item es i mark = front_text i (codes "{") ++ mark_text es mark ++ codes "}}"

-- ---- all of it

abbrev pub head_text : ℕ → List ℕ
head_text count = codes "{\"objects\":" ++ decimal count

abbrev pub bss_text : ℕ → List ℕ
bss_text size = valued_text (codes "],\"bss\":") size ++ codes ",\"externals\":["

abbrev pub words_text : Image → List ℕ
words_text m =
    codes ",\"text\":["
    ++ each (cell_item m.externals) m.text_cells
    ++ codes "],\"data\":["
    ++ each (cell_item m.externals) m.data_cells

abbrev pub names_text : Image → List ℕ
names_text m = each external_item m.externals ++ codes "],\"multiples\":[" ++ each multiple_item m.multiples

abbrev pub image_text : Image → List ℕ
image_text m = words_text m ++ bss_text m.bss_total ++ names_text m

abbrev pub marks_text : Kept → List ℕ
marks_text s = codes "],\"marks\":[" ++ each (mark_item (named s)) (newest s.journal) ++ codes "]}"

abbrev pub body_text : Kept → List ℕ
body_text s = image_text (image_of s) ++ marks_text s

abbrev pub shown_text : Kept → List ℕ
shown_text s = head_text (length s.entries) ++ body_text s
