-- The clauses of the relation of linking one by one, and what it means that a clause is needed. (ld(1))
use Rattle.std.specs.{Prelude.{◌≡◌, ◌≢◌, ◌↔◌, ℕ, ◌+◌, ◌*◌, ◌≤◌, true, false, cond, List, [], ◌++◌, map, length, Ok}, List.AllByRecursion}
use Rattle.aout_core.specs.declared.symbol.Segment.TheVariants.{TextSeg, DataSeg, BssSeg}
use Rattle.aout_core.specs.{declared.symbol.Symbol.Symbol, Contents.Contents, Addresses.data_start_in}
use Rattle.link_session.specs.{Starts.total, Sessions.IsObject, Mentions.Mention, Mentions.mentions, Mentions.externals}
use Rattle.tool_options.specs.{NameLists.is_among, Choices.Choices}
use Rattle.link_out.specs.{Layouts.magic_of, KeptSymbols.rows_kept, ReservedNames.reserved_names, Results.Outcome, function.Link.link}
use Rattle.laws.specs.relation.LinkedFrom.{IsLinkedFrom}
use Rattle.laws.specs.{relation.LinkedTable.{AreRows, moved_locals_in}, relation.LinkedWords.{AreRelocated, AreKept}}
use Rattle.laws.specs.{relation.NameStates.IsWanted, relation.Relocated.{base_in, IsEntry}, relation.Reported.{ArePicked, IsOther}}

-- each by the name that it has there
pub data Clause : Type 0 where
  text_size : Clause
  data_size : Clause
  bss : Clause
  text_words : Clause
  data_words : Clause
  magic : Clause
  symbol_size : Clause
  unused : Clause
  flag : Clause
  short : Clause
  few : Clause
  names : Clause
  are_rows : Clause
  table : Clause
  text : Clause
  «data» : Clause
  text_relocs : Clause
  data_relocs : Clause
  text_kept : Clause
  data_kept : Clause
  entry : Clause
  multiples : Clause
  reserved : Clause
  undefined : Clause
  none : Clause

-- what a clause states of a file and a report, by the rows of the externals
abbrev pub Says : Clause → List (List ℕ) → List Contents → Choices → Outcome → List Symbol → Type 0
Says text_size forced os o x rows = x.file.header.text_size ≡ total TextSeg os
Says data_size forced os o x rows = x.file.header.data_size ≡ total DataSeg os
Says bss forced os o x rows = total BssSeg os ≤ x.file.header.bss_size
Says text_words forced os o x rows = 2 * length x.file.text_words ≡ total TextSeg os
Says data_words forced os o x rows = 2 * length x.file.data_words ≡ total DataSeg os
Says magic forced os o x rows = x.file.header.magic ≡ magic_of o.layout
Says symbol_size forced os o x rows = x.file.header.symbol_size ≡ 12 * length x.file.symbols
Says unused forced os o x rows = x.file.header.unused ≡ 0
Says flag forced os o x rows = x.file.header.flag ≡ cond o.relocatable 0 1
Says short forced os o x rows = data_start_in x.file.header + x.file.header.data_size + x.file.header.bss_size ≤ 65535
Says few forced os o x rows = length x.file.symbols ≤ 5461
Says names forced os o x rows = map (λ s. s.name) rows ≡ externals forced os
Says are_rows forced os o x rows =
    AreRows x.file.header (total BssSeg os) o (mentions forced os)
    (data_start_in x.file.header + x.file.header.data_size) rows (base_in x.file.header (total BssSeg os) BssSeg)
Says table forced os o x rows = x.file.symbols ≡ rows_kept o.keep (moved_locals_in x.file.header os o ++ rows)
Says text forced os o x rows = AreRelocated x.file rows os TextSeg
Says «data» forced os o x rows = AreRelocated x.file rows os DataSeg
Says text_relocs forced os o x rows = 2 * length x.file.text_reloc ≡ cond o.relocatable (total TextSeg os) 0
Says data_relocs forced os o x rows = 2 * length x.file.data_reloc ≡ cond o.relocatable (total DataSeg os) 0
Says text_kept forced os o x rows = o.relocatable ≡ true → AreKept x.file rows (length (moved_locals_in x.file.header os o)) os TextSeg
Says data_kept forced os o x rows = o.relocatable ≡ true → AreKept x.file rows (length (moved_locals_in x.file.header os o)) os DataSeg
Says entry forced os o x rows = IsEntry rows o.entry x.file.header.entry_point x.report.entry_bad
Says multiples forced os o x rows =
    (others : List Mention) × ArePicked (IsOther (mentions forced os)) (mentions forced os) others
    × (x.report.multiples ≡ map (λ m. m.name) others)
Says reserved forced os o x rows = ArePicked (λ name. IsWanted (mentions forced os) name 0 → ⊥) reserved_names x.report.reserved
Says undefined forced os o x rows =
    o.relocatable ≡ false → ArePicked (λ name. IsWanted (mentions forced os) name 0 × (is_among reserved_names name ≡ false))
    (externals forced os) x.report.undefined
Says none forced os o x rows = o.relocatable ≡ true → x.report.undefined ≡ []

-- together the clauses are the relation
abbrev pub ClausesAreAll : Type 0
ClausesAreAll = (forced : List (List ℕ)) (os : List Contents) (o : Choices) (x : Outcome) →
    ((rows : List Symbol) × ((c : Clause) → Says c forced os o x rows)) ↔ IsLinkedFrom forced os o x

-- a file and a report that every other clause lets through, and that the link of these objects does not give
pub record IsNeeded (c : Clause) : Type 0 where
  pub forced : List (List ℕ)
  pub os : List Contents
  pub o : Choices
  pub x : Outcome
  pub rows : List Symbol
  pub good : AllByRecursion IsObject os
  pub others : (d : Clause) → d ≢ c → Says d forced os o x rows
  pub wrong : link forced os o ≢ Ok x
