-- Which objects are accepted.
--
-- Sizes and numbers are words of 16 bits, so a list of objects has limits; an object that passes one is refused.
use Rattle.std.specs.Prelude.{ℕ, if◌then◌else◌, nat_lt, List, [], ◌∷◌, ◌++◌, length, Option, Some, None}
use Rattle.aout_core.specs.{declared.symbol.Segment.TheVariants.{TextSeg, DataSeg, BssSeg}, Contents.Contents}
use Rattle.link_session.specs.declared.entry.AddFault.TheVariants.{TextFull, DataFull, BssFull, NamesFull}
use Rattle.link_session.specs.{declared.entry.AddFault.AddFault, Starts.total, Mentions.externals}

-- the first limit that the list of objects passes, if it passes one
abbrev pub limit_passed : List (List ℕ) → List Contents → Option AddFault
limit_passed forced os =
    if nat_lt 65534 (total TextSeg os) then Some TextFull
    else (if nat_lt 65534 (total DataSeg os) then Some DataFull
    else (if nat_lt 65534 (total BssSeg os) then Some BssFull
    else (if nat_lt 65535 (length (externals forced os)) then Some NamesFull
    else None)))

-- why the object is not added after these
abbrev pub refusal : List (List ℕ) → List Contents → Contents → Option AddFault
refusal forced os o = limit_passed forced (os ++ o ∷ [])
