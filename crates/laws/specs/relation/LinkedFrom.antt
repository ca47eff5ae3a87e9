-- What linking is: when a file and a report come of objects, forced names and options, by all these alone. (ld(1))
--
-- This relation is what a reader has to trust of a link that is made, as Refusals is for one that is refused. It states part by part
-- what the file has: the objects' words, relocated, the rows of the symbol table, and the entry point. With relocation, each word still
-- has its relocation word. It states what is reported, too. `LinkedExactly` and `LinkedOnce`, both proved, tie it to the function `link`.
use Rattle.std.specs.{Prelude.{◌≡◌, ◌↔◌, ℕ, ◌+◌, ◌*◌, ◌≤◌, true, cond, List, ◌++◌, map, length, Ok}, List.AllByRecursion}
use Rattle.aout_core.specs.declared.symbol.Segment.TheVariants.{TextSeg, DataSeg, BssSeg}
use Rattle.aout_core.specs.{declared.symbol.Symbol.Symbol, Contents.Contents, Addresses.data_start_in}
use Rattle.link_session.specs.{Starts.total, Sessions.IsObject, Mentions.mentions, Mentions.externals}
use Rattle.tool_options.specs.Choices.{Choices}
use Rattle.link_out.specs.{Layouts.magic_of, KeptSymbols.rows_kept, Results.Outcome, function.Link.link}
use Rattle.laws.specs.relation.Relocated.{base_in, HoldsObjects, IsEntry}
pub use Rattle.laws.specs.relation.LinkedTable.{shown, undefined_row, row_for, space_for, AreRows, moved_value_in}
pub use Rattle.laws.specs.relation.LinkedTable.{moved_local_in, moved_locals_in}
pub use Rattle.laws.specs.relation.LinkedWords.{AreRelocated, row_bits, IsNamedBy, AreBits, IsKept, AreKept}
pub use Rattle.laws.specs.relation.Reported.{ArePicked, IsOther, IsReported}

-- the header but for the sizes of the segments and the entry point, and what a file may hold at most
pub record HasHeader (o : Choices) (file : Contents) : Type 0 where
  pub magic : file.header.magic ≡ magic_of o.layout
  pub symbol_size : file.header.symbol_size ≡ 12 * length file.symbols
  pub unused : file.header.unused ≡ 0
  pub flag : file.header.flag ≡ cond o.relocatable 0 1
  pub short : data_start_in file.header + file.header.data_size + file.header.bss_size ≤ 65535
  pub few : length file.symbols ≤ 5461

-- the file and the report are what linking these objects gives; the rows are those of the externals, which the table has
-- after the locals that are kept
pub record IsLinkedFrom (forced : List (List ℕ)) (os : List Contents) (o : Choices) (x : Outcome) : Type 0 where
  -- the externals' symbols, one for each name that the objects or -u mention, in order
  pub rows : List Symbol
  -- the segments have the sizes of the objects' segments together
  pub holds : HoldsObjects x.file os
  -- magic number, flag and symbol size; the file ends by 65,535 and has at most 5,461 symbols
  pub header : HasHeader o x.file
  pub names : map (λ s. s.name) rows ≡ externals forced os
  -- each symbol has the type and the value that its definition, its common or its absence gives
  pub are_rows : AreRows x.file.header (total BssSeg os) o (mentions forced os)
      (data_start_in x.file.header + x.file.header.data_size) rows (base_in x.file.header (total BssSeg os) BssSeg)
  -- the table: the locals that are kept, moved with their segments, and then the externals
  pub table : x.file.symbols ≡ rows_kept o.keep (moved_locals_in x.file.header os o ++ rows)
  -- each word of text and of data is the object's word, relocated
  pub text : AreRelocated x.file rows os TextSeg
  pub «data» : AreRelocated x.file rows os DataSeg
  -- relocation words: one for each word with -r, and none without
  pub text_relocs : 2 * length x.file.text_reloc ≡ cond o.relocatable (total TextSeg os) 0
  pub data_relocs : 2 * length x.file.data_reloc ≡ cond o.relocatable (total DataSeg os) 0
  -- with -r each word still has its relocation word
  pub text_kept : o.relocatable ≡ true → AreKept x.file rows (length (moved_locals_in x.file.header os o)) os TextSeg
  pub data_kept : o.relocatable ≡ true → AreKept x.file rows (length (moved_locals_in x.file.header os o)) os DataSeg
  -- the entry point
  pub entry : IsEntry rows o.entry x.file.header.entry_point x.report.entry_bad
  -- the report: multiply defined, reserved and undefined names
  pub report : IsReported forced os o x

-- there is a link if and only if the relation holds
abbrev pub LinkedExactly : Type 0
LinkedExactly =
    (forced : List (List ℕ)) (os : List Contents) (o : Choices) (x : Outcome) → AllByRecursion IsObject os →
    (link forced os o ≡ Ok x) ↔ IsLinkedFrom forced os o x

-- at most one file and report come of the same objects and options
abbrev pub LinkedOnce : Type 0
LinkedOnce =
    (forced : List (List ℕ)) (os : List Contents) (o : Choices) (x y : Outcome) → AllByRecursion IsObject os →
    IsLinkedFrom forced os o x → IsLinkedFrom forced os o y → x ≡ y
