-- What becomes of a name: its segment, its address, and the value that is written. (ld(1))
--
-- A definition is moved with its segment. An undefined name may be one of the three that the linker defines. A common gets an
-- address in bss if commons are laid out. Any other name stays unbound, and its size is written.
use Rattle.std.specs.Prelude.{ℕ, ◌+◌, eqb, if◌then◌else◌, List, Option, Some, None, bytes_eq}
use Rattle.aout_core.specs.declared.symbol.Segment.TheVariants.{TextSeg, DataSeg, BssSeg}
use Rattle.aout_core.specs.{declared.symbol.Segment.Segment, Words.plus, WellFormed.segment_number}
use Rattle.link_session.specs.{declared.state.State.State, declared.state.State.TheVariants.{Defined, Wanted}, States.state}
use Rattle.tool_options.specs.Choices.{Choices, lays_commons}
use Rattle.link_out.specs.{Layouts.Bases, Layouts.base, function.Plans.Plan, function.Plans.common_offset}
pub use Rattle.link_out.specs.ReservedNames.{etext, edata, end_name}

-- the segment that the name is bound to, if it is bound, its address, and the value that is written
pub record Final : Type 0 where
  pub bound : Option Segment
  pub address : ℕ
  pub written : ℕ

abbrev pub bound_at : Segment → ℕ → Final
bound_at segment address = record { bound = Some segment; address = address; written = address }

-- not bound: its size is written
abbrev pub waiting : ℕ → Final
waiting size = record { bound = None; address = 0; written = size }

-- a name that nothing defines and that is not a common: the linker defines etext, edata and end, the ends of the segments
abbrev pub reserved_or_waiting : Bases → List ℕ → Final
reserved_or_waiting b name =
    if bytes_eq name etext then bound_at TextSeg b.text_end
    else (if bytes_eq name edata then bound_at DataSeg b.data_end
    else (if bytes_eq name end_name then bound_at BssSeg b.bss_end
    else waiting 0))

-- a name in this state, with so many bytes of commons before it
abbrev pub final_at : Choices → Bases → ℕ → List ℕ → State → Final
final_at o b offset name (Defined segment place) = bound_at segment (plus (base b segment) place)
final_at o b offset name (Wanted size) =
    if eqb size 0 then (if o.relocatable then waiting 0 else reserved_or_waiting b name)
    else (if lays_commons o then bound_at BssSeg (plus b.data_end offset)
    else waiting size)

abbrev pub final_by : Plan → List ℕ → State → Final
final_by p name s = final_at p.choices p.at (common_offset p.mentions name) name s

abbrev pub final : Plan → List ℕ → Final
final p name = final_by p name (state p.mentions name)

-- 040 if the name is not bound, else 041 to 044
abbrev pub type_of : Option Segment → ℕ
type_of None = 0o40
type_of (Some segment) = 0o40 + segment_number segment
