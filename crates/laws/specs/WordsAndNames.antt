-- What becomes of a definition in a linked file. (ld(1))
use Rattle.std.specs.Prelude.{◌≡◌, List, Some}
use Rattle.aout_core.specs.{declared.symbol.Symbol.Symbol, Contents.Contents}
use Rattle.aout_core.specs.{Words.plus, WellFormed.segment_of}
use Rattle.laws.specs.relation.Relocated.{move_in, entry_of, external_type}

-- the name of a definition has an external symbol, of its segment, whose value is the definition's, moved with its segment
pub record IsDefined (file : Contents) (os before : List Contents) (k : Contents) (s : Symbol) : Type 0 where
  pub row : Symbol
  pub found : entry_of file.symbols s.name ≡ Some row
  pub type_bits : row.type_bits ≡ external_type (segment_of s)
  pub value : row.value ≡ plus s.value (move_in file.header os before k (segment_of s))
