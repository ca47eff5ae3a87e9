-- The kept locals as they follow from the objects' sizes, and the rows of externals as they follow from what becomes of them.
use Rattle.std.specs.Prelude.{ℕ, ◌+◌, List, [], ◌∷◌, ◌++◌, map, filter, length, zip}
use Rattle.aout_core.specs.{declared.symbol.Segment.TheVariants.{TextSeg, DataSeg, BssSeg}, declared.symbol.Symbol.Symbol}
use Rattle.aout_core.specs.{declared.symbol.Segment.Segment, Contents.Contents, Words.plus, WellFormed.segment_of}
use Rattle.link_session.specs.Starts.{next_starts, shifts_at, shift_by}
use Rattle.link_session.specs.{declared.relocate.Starts.Starts, declared.relocate.Shifts.Shifts, Image.Named}
use Rattle.tool_options.specs.declared.options.Keep.{Keep}
use Rattle.link_out.specs.{declared.table.Moves.Moves, Layouts.Bases, Layouts.base, function.Finals.Final, function.Finals.type_of}
use Rattle.link_out.specs.{function.Tables.is_kept_local}

-- how far the segments of an object move
abbrev pub moves_by : Bases → Shifts → Moves
moves_by b s = record {
  text = plus (base b TextSeg) (shift_by s TextSeg);
  «data» = plus (base b DataSeg) (shift_by s DataSeg);
  bss = plus (base b BssSeg) (shift_by s BssSeg);
}

abbrev pub value_moved : Moves → Segment → ℕ → ℕ
value_moved m TextSeg value = plus value m.text
value_moved m DataSeg value = plus value m.data
value_moved m BssSeg value = plus value m.bss
value_moved m _ value = value

abbrev pub symbol_moved : Moves → Symbol → Symbol
symbol_moved m s = record s { value = value_moved m (segment_of s) s.value }

-- the kept locals of one object
abbrev pub rows_in : Keep → Moves → List Symbol → List Symbol
rows_in keep m symbols = map (symbol_moved m) (filter (is_kept_local keep) symbols)

-- the kept locals of objects that start here
abbrev pub rows_from : Bases → Keep → Starts → List Contents → List Symbol
rows_from b keep s [] = []
rows_from b keep s (o ∷ os) = rows_in keep (moves_by b (shifts_at s o.header)) o.symbols ++ rows_from b keep (next_starts s o.header) os

-- the row of an external, and those of the externals in order
abbrev pub row_with : List ℕ → Final → Symbol
row_with name f = record { name = name; type_bits = type_of f.bound; value = f.written }

abbrev pub rows_with : Named → List Final → List Symbol
rows_with es fs = map (λ p. row_with p.0.0 p.1) (zip es fs)

-- how many locals are kept
abbrev pub count_in : Keep → List Symbol → ℕ
count_in keep symbols = length (filter (is_kept_local keep) symbols)

abbrev pub kept_count : Keep → List Contents → ℕ
kept_count keep [] = 0
kept_count keep (o ∷ os) = count_in keep o.symbols + kept_count keep os
