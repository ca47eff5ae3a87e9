-- Where the segments of the next object start.
use Rattle.std.proofs.{lemmas.Grind.common_steps, Common.{◌≡◌, ◌%◌, List, [], ◌∷◌, ◌++◌, arith}, lemmas.List.Sums.sum_by-append}
use Rattle.aout_core.specs.{declared.symbol.Segment.Segment, Contents.Contents, Words.plus}
use Rattle.link_session.specs.Starts.{total, size_of, starts_after, next_starts}

next_total : (segment : Segment) (earlier : List Contents) (o : Contents) →
    plus (total segment earlier % 65536) (size_of segment o) ≡ total segment (earlier ++ o ∷ []) % 65536
next_total segment earlier o = omega (arith, sum_by-append (size_of segment) earlier (o ∷ []))

-- the starts that the code adds up object by object are those of the definition
pub next_starts-after : (earlier : List Contents) (o : Contents) →
    next_starts (starts_after earlier) o.header ≡ starts_after (earlier ++ o ∷ [])
next_starts-after earlier o = grind (arith, common_steps, next_total)
