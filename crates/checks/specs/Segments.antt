-- The addresses of the segments of a file in memory. (a.out(5))
--
-- Text begins at 0. Data follows it, or begins at a multiple of 020000 or at 0, by the magic number; bss follows data.
use Rattle.std.specs.Prelude.{ℕ, ◌+◌, Bool, true, ◌&&◌, nat_le, Option, Some}
use Rattle.aout_core.specs.{declared.symbol.Segment.Segment, declared.reloc.Kind.Kind, Addresses.data_start_in}
use Rattle.aout_core.specs.{declared.symbol.Segment.TheVariants.{TextSeg, DataSeg, BssSeg, Undefined}, declared.header.Header.Header}
use Rattle.aout_core.specs.declared.reloc.Kind.TheVariants as kinds

abbrev pub data_to : Header → ℕ
data_to h = data_start_in h + h.data_size

abbrev pub bss_to : Header → ℕ
bss_to h = data_to h + h.bss_size

-- the address is in the segment or at its end; other segments have no addresses of their own, so any address will do
abbrev pub has_address : Header → Segment → ℕ → Bool
has_address h TextSeg address = nat_le address h.text_size
has_address h DataSeg address = nat_le (data_start_in h) address && nat_le address (data_to h)
has_address h BssSeg address = nat_le (data_to h) address && nat_le address (bss_to h)
has_address h _ address = true

-- the segment that a kind of relocation word is for
abbrev pub segment_meant : Option Kind → Segment
segment_meant (Some kinds.TextSeg) = TextSeg
segment_meant (Some kinds.DataSeg) = DataSeg
segment_meant (Some kinds.BssSeg) = BssSeg
segment_meant _ = Undefined
