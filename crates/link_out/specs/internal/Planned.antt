-- What the plan in the code means, and the facts on it that the passes of a link hand on.
use Rattle.std.specs.Prelude.{◌≡◌, ◌≤◌, List, [], cond, Result}
use Rattle.aout_core.specs.{Contents.Contents, declared.symbol.Symbol.Symbol, declared.symbol.Segment.TheVariants.{TextSeg, DataSeg}}
use Rattle.link_session.specs.Labelled.{objects}
use Rattle.link_out.specs.{declared.linked.LinkFault.LinkFault, declared.words.Words.Words, declared.relocs.Relocs.Relocs, Layouts.Bases}
use Rattle.link_out.specs.{function.Plans.Plan, function.Plans.plan_of, function.Words.final_words, function.Tables.table}
use Rattle.link_out.specs.{function.Tables.local_rows, function.Tables.final_relocs, function.Link.Outcome, function.Link.link_by}
use Rattle.link_out.specs.declared.plan.Plan as code

-- what a link is computed from
abbrev pub plan_in : code.Plan → Plan
plan_in p = plan_of p.session.now p.options.now

-- what is linked
abbrev pub objects_in : code.Plan → List Contents
objects_in p = objects p.session.now.entries

-- the table, and the locals that come first in it
abbrev pub table_in : code.Plan → List Symbol
table_in p = table (plan_in p) (objects_in p)

abbrev pub locals_in : code.Plan → List Symbol
locals_in p = local_rows (plan_in p) (objects_in p)

-- the link, or the first refusal
abbrev pub link_in : code.Plan → Result Outcome LinkFault
link_in p = link_by (plan_in p) (objects_in p)

-- ends that a word can hold
pub record AreShort (b : Bases) : Type 0 where
  pub text : b.text_end ≤ 65535
  pub «data» : b.data_end ≤ 65535
  pub bss : b.bss_end ≤ 65535

-- the words of text and data
pub record AreWords (p : code.Plan) (words : Words) : Type 0 where
  pub text : words.text_words.items ≡ final_words (plan_in p) TextSeg (objects_in p)
  pub «data» : words.data_words.items ≡ final_words (plan_in p) DataSeg (objects_in p)

-- the relocation words of text and data, if relocation is kept
pub record AreRelocs (p : code.Plan) (relocs : Relocs) : Type 0 where
  pub text : relocs.text_reloc.items ≡ cond p.options.now.relocatable (final_relocs (plan_in p) (objects_in p) TextSeg) []
  pub «data» : relocs.data_reloc.items ≡ cond p.options.now.relocatable (final_relocs (plan_in p) (objects_in p) DataSeg) []
