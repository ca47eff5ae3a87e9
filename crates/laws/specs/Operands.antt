-- To what the words of an object refer, and what a word of a linked program finds. (ld(1), the PDP-11's relative and absolute modes)
use Rattle.std.specs.Prelude.{◌≡◌, ℕ, ◌+◌, Bool, true, false, cond, eqb, List, Option, Some, None, slice_get}
use Rattle.aout_core.specs.{declared.symbol.Segment.Segment, declared.reloc.Kind.Kind, Contents.Contents, Words.plus}
use Rattle.aout_core.specs.{WellFormed.{is_external, masked_type, segment_of}, declared.symbol.Symbol.Symbol}
use Rattle.aout_core.specs.declared.symbol.Segment.TheVariants as segments
use Rattle.aout_core.specs.declared.reloc.Kind.TheVariants as kinds
use Rattle.link_session.specs.Starts.{own}
use Rattle.laws.specs.Core.{Space, has_segment}

-- what a word at an address finds, modulo 65,536: the word, or, if it has the pc bit, what the machine does that fetches it with the pc
-- after it
abbrev pub operand : Bool → ℕ → ℕ → ℕ
operand pc address word = plus (cond pc (address + 2) 0) word

-- the segment that a word refers to, if it does not refer to a name; that of an absolute word is never moved
abbrev pub segment_meant : Kind → Option Segment
segment_meant kinds.Absolute = Some segments.Absolute
segment_meant kinds.TextSeg = Some segments.TextSeg
segment_meant kinds.DataSeg = Some segments.DataSeg
segment_meant kinds.BssSeg = Some segments.BssSeg
segment_meant kinds.External = None

-- an object defines a name n bytes after the start of one of its segments, which may be the segment's end, or as the address n
pub record Defines (c : Contents) (name : List ℕ) (segment : Segment) (n : ℕ) : Type 0 where
  pub number : ℕ
  pub symbol : Symbol
  pub is_there : slice_get c.symbols number ≡ Some symbol
  pub outer : is_external symbol ≡ true
  pub inner : eqb (masked_type symbol) 0 ≡ false
  pub names : symbol.name ≡ name
  pub is : segment_of symbol ≡ segment
  pub value : symbol.value ≡ own c segment + n

-- the spaces of a program in which a definition may be used: those that have its segment, and any for an absolute one
abbrev pub is_usable_in : ℕ → Segment → Space → Bool
is_usable_in magic segments.TextSeg space = has_segment magic segments.TextSeg space
is_usable_in magic segments.DataSeg space = has_segment magic segments.DataSeg space
is_usable_in magic segments.BssSeg space = has_segment magic segments.BssSeg space
is_usable_in magic _ space = true
