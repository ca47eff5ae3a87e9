-- A word of an object, with its line and the label before that.
--
-- A word of text is in a line, an instruction or a plain word; a word of data is a line of its own. A label is a symbol of text or of data,
-- at its address in the object. The one before a line is that with the largest address up to the line's own; of several at that address,
-- an external or else the first of the table. In text the labels of functions come first: the other labels count if none of those is before
-- the line.
use Rattle.std.specs.Prelude.{ℕ, ◌*◌, ◌/◌, Bool, false, ◌||◌, eqb, List, [], ◌∷◌, filter, Option, None}
use Rattle.aout_core.specs.{WellFormed.{first_of, is_external}, declared.symbol.Symbol.Symbol}
use Rattle.aout_core.specs.{declared.symbol.Segment.Segment, declared.symbol.Segment.TheVariants.{TextSeg, DataSeg, BssSeg}}
use Rattle.aout_core.specs.{Addresses.data_start_in, Contents.Contents, Words.plus, declared.part.Part.Part}
use Rattle.aout_core.specs.declared.part.Part.TheVariants.{Text, Data}
use Rattle.instructions.specs.declared.reference.Reference.{Reference}
use Rattle.disassemblies.specs.{Near.nearest_label, Starts.line_start}
use Rattle.link_maps.specs.declared.references.ReferringWord.{ReferringWord}

abbrev pub segment_of_part : Part → Segment
segment_of_part Text = TextSeg
segment_of_part Data = DataSeg

-- ---- labels

-- a function, or a variable of C: an external, or a name after a `_`, as compilers name those of one file
abbrev pub begins_in_c : List ℕ → Bool
begins_in_c [] = false
begins_in_c (c ∷ cs) = eqb c 95

abbrev pub is_function : Symbol → Bool
is_function s = is_external s || begins_in_c s.name

-- the nearest label of text, data or bss
abbrev pub label_before : List Symbol → Segment → ℕ → Option Reference
label_before symbols TextSeg address =
    first_of (nearest_label (filter is_function symbols) TextSeg address) (nearest_label symbols TextSeg address)
label_before symbols DataSeg address = nearest_label symbols DataSeg address
label_before symbols BssSeg address = nearest_label symbols BssSeg address
label_before symbols _ address = None

-- ---- words

-- how many bytes after the first of a part the line begins that has this word, by the words at which the lines of text begin
abbrev pub line_of : List Bool → Part → ℕ → ℕ
line_of starts Text offset = 2 * line_start starts (offset / 2)
line_of starts Data offset = offset

-- where a part begins: a program with relocation may have its data on a boundary, or at 0
abbrev pub start_of_part : Contents → Part → ℕ
start_of_part o Text = 0
start_of_part o Data = data_start_in o.header

-- the address in the file of what is so many bytes after the first of a part
abbrev pub address_in : Contents → Part → ℕ → ℕ
address_in o part offset = plus offset (start_of_part o part)

-- the label before a line
abbrev pub before_line : Contents → Part → ℕ → Option Reference
before_line o part line = label_before o.symbols (segment_of_part part) (address_in o part line)

-- the word of a part so many bytes after the first, which leads so many bytes beyond a symbol
abbrev pub reference_at : List Bool → Contents → Part → ℕ → ℕ → ReferringWord
reference_at starts o part offset inside = record {
  part = part;
  offset = offset;
  line = line_of starts part offset;
  before = before_line o part (line_of starts part offset);
  inside = inside;
}
