use Rattle.std.proofs.Common.{◌≡◌, ℕ, ◌%◌, List, refl, arith}
use Rattle.aout_core.specs.{declared.symbol.Segment.Segment, Contents.Contents, Words.plus, Words.minus}
use Rattle.aout_core.specs.declared.symbol.Segment.TheVariants as segments
use Rattle.link_session.specs.Starts.{total, shift, starts_after, shifts_at, shift_by}
use Rattle.link_session.proofs.StartLemmas.{next_starts-after}
use Rattle.link_session.proofs.laws.starts_law.Goals as goal

less : (a b : ℕ) → minus (a % 65536) b ≡ minus a b
less a b = omega arith

shifts : (earlier : List Contents) (o : Contents) (segment : Segment) →
    shift_by (shifts_at (starts_after earlier) o.header) segment ≡ shift earlier o segment
shifts earlier o segments.TextSeg = less (total segments.TextSeg earlier) 0
shifts earlier o segments.DataSeg = less (total segments.DataSeg earlier) o.header.text_size
shifts earlier o segments.BssSeg = less (total segments.BssSeg earlier) (plus o.header.text_size o.header.data_size)
shifts earlier o segments.Undefined = refl
shifts earlier o segments.Absolute = refl
shifts earlier o segments.Other = refl

pub returns : goal.returns
returns c = record { first = refl; next = next_starts-after; shifts = shifts }
