-- What a link puts at which address of the core. (exec(2), ld(1))
--
-- Each word of each object is loaded, relocated, at the address that a symbol of its place has.
use Rattle.std.specs.{Prelude.{◌≡◌, ℕ, ◌+◌, ◌*◌, ◌%◌, cond, List}}
use Rattle.aout_core.specs.WellFormed.{kind_of, is_pc_relative, symbol_number}
use Rattle.aout_core.specs.{declared.header.Header.Header, declared.symbol.Symbol.Symbol, declared.symbol.Segment.Segment}
use Rattle.aout_core.specs.{declared.symbol.Segment.TheVariants.TextSeg, declared.symbol.Segment.TheVariants.BssSeg}
use Rattle.aout_core.specs.{declared.reloc.Reloc.Reloc, Contents.Contents, Words.plus, Words.minus}
use Rattle.link_session.specs.{Starts.total, Starts.own}
use Rattle.laws.specs.Core.{Space, of_instructions, of_data, IsWordAt}
use Rattle.laws.specs.{relation.Relocated.{base_in, move_in, IsAdded}}

-- the space in which a segment is always found
abbrev pub space_of : Segment → Space
space_of TextSeg = of_instructions
space_of _ = of_data

-- byte n of a segment of k comes after that segment of the objects before k. A symbol of k at that byte has this address, modulo
-- 65,536: its value in k, moved
pub record IsPlace (h : Header) (os before : List Contents) (k : Contents) (segment : Segment) (n address : ℕ) : Type 0 where
  pub sum : address ≡ base_in h (total BssSeg os) segment + total segment before + n
  pub symbol : plus (own k segment + n) (move_in h os before k segment) ≡ address % 65536

-- word i of a segment of k, which is w with relocation word r, is loaded at its place, relocated
pub record IsLoaded (file : Contents) (rows : List Symbol) (os before : List Contents) (k : Contents)
    (segment : Segment) (i w : ℕ) (r : Reloc) : Type 0 where
  pub address : ℕ
  pub place : IsPlace file.header os before k segment (2 * i) address
  pub added : ℕ
  pub is : IsAdded file.header rows os before k (kind_of r) (symbol_number r) added
  pub word : IsWordAt file (space_of segment) address
      (minus (plus w added) (cond (is_pc_relative r) (move_in file.header os before k segment) 0))
