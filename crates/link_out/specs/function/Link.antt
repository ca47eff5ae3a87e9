-- The link of a list of objects: the first refusal, or a file and a report. (ld(1))
--
-- It is computed from the whole list of objects: each word and each name is looked up in all of it.
use Rattle.std.specs.Prelude.{ℕ, ◌+◌, ◌*◌, cond, ◌&&◌, if◌then◌else◌, nat_lt, List, [], length, Result, Ok, Err}
use Rattle.aout_core.specs.declared.symbol.Segment.TheVariants.{TextSeg, DataSeg, BssSeg}
use Rattle.aout_core.specs.{declared.header.Header.Header, Contents.Contents}
use Rattle.link_session.specs.{Labelled.objects, Undo.Kept, Starts.total}
use Rattle.link_out.specs.declared.linked.LinkFault.TheVariants.{DoesNotFit, TooManySymbols, SymbolNumber}
use Rattle.link_out.specs.function.Tables.{table, final_relocs, has_number_too_large}
use Rattle.link_out.specs.{declared.linked.LinkFault.LinkFault, Layouts.magic_of, function.Plans.Plan, function.Plans.plan}
use Rattle.link_out.specs.{function.Plans.commons_laid, function.Words.final_words, function.Reports.report_of, function.Reports.entry_word}
use Rattle.tool_options.specs.Choices.{Choices}
pub use Rattle.link_out.specs.Results.{Outcome}

abbrev pub linked_header : Plan → List Contents → Header
linked_header p os = record {
  magic = magic_of p.choices.layout;
  text_size = total TextSeg os;
  data_size = total DataSeg os;
  bss_size = commons_laid p.choices p.mentions + total BssSeg os;
  symbol_size = 12 * length (table p os);
  entry_point = entry_word p p.choices.entry;
  unused = 0;
  flag = cond p.choices.relocatable 0 1;
}

abbrev pub linked_file : Plan → List Contents → Contents
linked_file p os = record {
  header = linked_header p os;
  text_words = final_words p TextSeg os;
  data_words = final_words p DataSeg os;
  text_reloc = cond p.choices.relocatable (final_relocs p os TextSeg) [];
  data_reloc = cond p.choices.relocatable (final_relocs p os DataSeg) [];
  symbols = table p os;
}

abbrev pub link_by : Plan → List Contents → Result Outcome LinkFault
link_by p os =
    if nat_lt 65535 p.at.bss_end then Err DoesNotFit
    else (if nat_lt 5461 (length (table p os)) then Err TooManySymbols
    else (if p.choices.relocatable && has_number_too_large p os then Err SymbolNumber
    else Ok (record { file = linked_file p os; report = report_of p })))

abbrev pub link : List (List ℕ) → List Contents → Choices → Result Outcome LinkFault
link forced os o = link_by (plan forced os o) os

-- the link of what a session keeps
abbrev pub link_of : Kept → Choices → Result Outcome LinkFault
link_of s o = link s.forced (objects s.entries) o
