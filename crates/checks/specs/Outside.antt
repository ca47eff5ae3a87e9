-- Whether an address outside of its segment is a fault for sure. (as(1), a.out(5); what is sure: own choice)
--
-- Right code counts from outside of a segment: `mov _a-12(r0),r0` for `a[i-1]`, `mov $tab-4,r1` before `add $4,r1`, `p: .word buf-2`, a
-- symbol `base = start-12`, or text that is moved by `.. = 137000`. An array of a compiler begins far before its first element, as
-- `V1-1450(r1)`. So a word is a fault for sure if it is relative to the pc. If no symbol of text lies outside, it is one if it is the word
-- of an operand of mode 37, 67 or 77, by the lines of the sweep: for then memory is there. With the same exception it is one if the address
-- lies more than 0400 bytes outside and something shows the mistake: it is 0; counted from the start of the segment it is that of a symbol;
-- the word begins a line of text; or it is a word of data, and the next one is not relocated and has the address of a symbol of the segment.
-- With the same exception a symbol of data or bss is one if it is an external or lies so far outside, unless it is a base: a word refers to
-- it by its address, and another symbol of the segment lies inside. A symbol of text is none for sure.
use Rattle.std.specs.Prelude.{ℕ, ◌+◌, ◌-◌, ◌*◌, ◌%◌, Bool, true, false, not, ◌&&◌, ◌||◌, eqb, nat_lt, if◌then◌else◌, Option, Some}
use Rattle.std.specs.{Prelude.{slice_get, zip}, List.list_any}
use Rattle.aout_core.specs.WellFormed.{is_external, is_pc_relative, masked_type, segment_number, segment_of}
use Rattle.aout_core.specs.{declared.header.Header.Header, declared.symbol.Symbol.Symbol, declared.symbol.Segment.Segment}
use Rattle.aout_core.specs.{declared.symbol.Segment.TheVariants.{TextSeg, DataSeg, BssSeg}, declared.reloc.Reloc.Reloc, Contents.Contents}
use Rattle.aout_core.specs.{Addresses.data_start_in, declared.part.Part.Part, declared.part.Part.TheVariants.{Text, Data}}
use Rattle.instructions.specs.{declared.mode.Addressing.Addressing, declared.operand.Operand.Operand}
use Rattle.instructions.specs.{declared.operand.Operand.TheVariants.General, declared.line.Line.TheVariants.Decoded}
use Rattle.instructions.specs.{declared.unix.Decoder.TheVariants.Unix, declared.unix.UnixLine.UnixLine}
use Rattle.instructions.specs.{declared.unix.UnixLine.TheVariants.Machine, Modes.addressing, Instructions.word_count_of}
use Rattle.instructions.specs.declared.mode.Addressing.TheVariants as ways
use Rattle.instructions.specs.Relocated.{is_relocated}
use Rattle.disassemblies.specs.{Lines.unix_line_in, Naming.is_at, Starts.starts, Starts.is_start}
use Rattle.checks.specs.Segments.{data_to, bss_to, has_address}

abbrev pub is_byte : ℕ → Bool
is_byte b = not (eqb b 0)

-- the addresses at which a segment begins and ends
abbrev pub first_of : Header → Segment → ℕ
first_of h DataSeg = data_start_in h
first_of h BssSeg = data_to h
first_of h _ = 0

abbrev pub last_of : Header → Segment → ℕ
last_of h DataSeg = data_to h
last_of h BssSeg = bss_to h
last_of h _ = h.text_size

-- more than 0400 bytes before it or after it; addresses wrap
abbrev pub is_far : Header → Segment → ℕ → Bool
is_far h g n =
    if nat_lt n (first_of h g) then nat_lt (n + 0o400) (first_of h g)
    else nat_lt (last_of h g + 0o400) n && nat_lt (n + 0o400) (first_of h g + 65536)

abbrev pub is_of : Segment → Symbol → Bool
is_of g s = eqb (masked_type s) (segment_number g)

abbrev pub is_text_outside : Header → Symbol → Bool
is_text_outside h s = is_of TextSeg s && not (has_address h TextSeg s.value)

abbrev pub is_moved : Contents → Bool
is_moved c = list_any (is_text_outside c.header) c.symbols

-- the operand is in memory at an address
abbrev pub has_address_way : Option Addressing → Bool
has_address_way (Some ways.Relative) = true
has_address_way (Some ways.RelativeDeferred) = true
has_address_way (Some ways.Absolute) = true
has_address_way _ = false

abbrev pub is_at_address : Option Operand → Bool
is_at_address (Some (General m r)) = has_address_way (addressing m r)
is_at_address _ = false

-- the word at a place is that of such an operand of the line at start
abbrev pub is_direct_in : ℕ → ℕ → UnixLine → Bool
is_direct_in start place (Machine (Decoded i a b)) =
    (eqb place (start + 1) && is_at_address i.first) || (eqb place (start + 1 + word_count_of i.first) && is_at_address i.second)
is_direct_in start place line = false

abbrev pub is_direct_back : Contents → ℕ → ℕ → Bool
is_direct_back c place back =
    not (nat_lt place back)
    && (is_start (starts Unix c) (place - back) && is_direct_in (place - back) place (unix_line_in Unix c (place - back)))

-- a word of text is one of a line of the sweep that begins one or two words before
abbrev pub is_direct : Contents → Part → ℕ → Bool
is_direct c Text place = is_direct_back c place 1 || is_direct_back c place 2
is_direct c Data place = false

-- a word that is not relocated has the address of a symbol of a segment
abbrev pub is_unmarked : Contents → Segment → Option ℕ → Option Reloc → Bool
is_unmarked c g (Some word) r = not (is_relocated r) && list_any (is_at g word) c.symbols
is_unmarked c g _ r = false

-- something shows that a word of a part, which refers to an address far outside of this segment, has the wrong address or kind
abbrev pub is_shown : Contents → Part → ℕ → Segment → Bool
is_shown c Text place g = is_start (starts Unix c) place
is_shown c Data place g = is_unmarked c g (slice_get c.data_words (place + 1)) (slice_get c.data_reloc (place + 1))

-- a word of a part refers to an address outside of this segment
abbrev pub is_sure_word : Contents → Part → ℕ → Segment → Reloc → ℕ → Bool
is_sure_word c part place g r n =
    is_pc_relative r
    || (not (is_moved c) && (is_direct c part place
    || (is_far c.header g n
    && (eqb n 0 || (list_any (is_at g (n + first_of c.header g)) c.symbols || is_shown c part place g)))))

-- a word refers to the address of a segment, not from the pc
abbrev pub refers_at : Segment → ℕ → ℕ × Reloc → Bool
refers_at g n w = eqb w.0 n && eqb (w.1.0 % 16 + 2) (2 * segment_number g)

abbrev pub is_inside : Header → Segment → Symbol → Bool
is_inside h g s = is_of g s && has_address h g s.value

-- words count from an address outside of a segment, and a symbol lies inside, as in `base = table-2`
abbrev pub is_base : Contents → Segment → ℕ → Bool
is_base c g n =
    list_any (is_inside c.header g) c.symbols
    && (list_any (refers_at g n) (zip c.text_words c.text_reloc) || list_any (refers_at g n) (zip c.data_words c.data_reloc))

-- a symbol has a value outside of its segment
abbrev pub is_sure_value : Contents → Symbol → Bool
is_sure_value c s =
    not (is_of TextSeg s)
    && ((is_external s || is_far c.header (segment_of s) s.value) && not (is_moved c || is_base c (segment_of s) s.value))
