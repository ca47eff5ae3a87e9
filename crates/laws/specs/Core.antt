-- Which byte is at which address when a file is loaded. (exec(2), a.out(5))
--
-- A plain file (0407) and one with pure text (0410) are loaded into one space: text from 0, data from `data_start_in`, and zeros for
-- bss after data. With split spaces (0411) text is loaded from 0 into the space of instructions, and data from 0 into that of
-- data, with bss after it. A word has its low byte first. The stack is not described here.
use Rattle.std.specs.Prelude.{◌≡◌, ℕ, ◌+◌, ◌-◌, ◌/◌, ◌%◌, Bool, false, ◌&&◌, ◌||◌, eqb, if◌then◌else◌, nat_le, nat_lt, Option, Some, None}
use Rattle.std.specs.Prelude.{slice_get}
use Rattle.aout_core.specs.declared.symbol.Segment.TheVariants.{TextSeg, DataSeg, BssSeg}
use Rattle.aout_core.specs.{declared.header.Header.Header, declared.symbol.Segment.Segment, Contents.Contents, Words.all_word_bytes}
use Rattle.aout_core.specs.{WellFormed.first_of, Addresses.data_start_in}

pub data Space : Type 0 where
  of_instructions : Space
  of_data : Space

-- one space has all segments, or one of two has text, and the other data and bss. Any other magic loads nothing
abbrev pub has_one_space : ℕ → Bool
has_one_space magic = eqb magic 0o407 || eqb magic 0o410

abbrev pub has_segment : ℕ → Segment → Space → Bool
has_segment magic TextSeg of_instructions = has_one_space magic || eqb magic 0o411
has_segment magic TextSeg of_data = has_one_space magic
has_segment magic DataSeg of_instructions = has_one_space magic
has_segment magic DataSeg of_data = has_one_space magic || eqb magic 0o411
has_segment magic BssSeg of_instructions = has_one_space magic
has_segment magic BssSeg of_data = has_one_space magic || eqb magic 0o411
has_segment magic _ space = false

-- the first address of a segment of the file, and how many bytes it has
abbrev pub first_address : Header → Segment → ℕ
first_address h DataSeg = data_start_in h
first_address h BssSeg = data_start_in h + h.data_size
first_address h _ = 0

abbrev pub bytes_of : Header → Segment → ℕ
bytes_of h TextSeg = h.text_size
bytes_of h DataSeg = h.data_size
bytes_of h BssSeg = h.bss_size
bytes_of h _ = 0

-- byte n of a segment
abbrev pub segment_byte : Contents → Segment → ℕ → Option ℕ
segment_byte file TextSeg n = slice_get (all_word_bytes file.text_words) n
segment_byte file DataSeg n = slice_get (all_word_bytes file.data_words) n
segment_byte file BssSeg n = Some 0
segment_byte file _ n = None

-- whether an address of a space is one of a segment
abbrev pub is_in : Header → Space → Segment → ℕ → Bool
is_in h space segment address =
    has_segment h.magic segment space
    && (nat_le (first_address h segment) address && nat_lt address (first_address h segment + bytes_of h segment))

-- the byte that a segment has at an address of a space
abbrev pub loaded_byte : Contents → Space → Segment → ℕ → Option ℕ
loaded_byte file space segment address =
    if is_in file.header space segment address then segment_byte file segment (address - first_address file.header segment) else None

-- the byte at an address of a space, if there is one
abbrev pub core : Contents → Space → ℕ → Option ℕ
core file space address =
    first_of (loaded_byte file space TextSeg address)
    (first_of (loaded_byte file space DataSeg address) (loaded_byte file space BssSeg address))

-- the word at an address, low byte first
pub record IsWordAt (file : Contents) (space : Space) (address word : ℕ) : Type 0 where
  pub low : core file space address ≡ Some (word % 256)
  pub high : core file space (address + 1) ≡ Some (word / 256)
