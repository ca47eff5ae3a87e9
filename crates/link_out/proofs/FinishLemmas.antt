-- A link that no fault refuses.
use Rattle.std.proofs.Common.{◌≡◌, ℕ, ◌-◌, ◌≤◌, true, false, cond, List, [], map, length, ◌∙◌, ap, sym, subst, arith, rules}
use Rattle.std.proofs.lemmas.Bool.{or_parts}
use Rattle.aout_core.specs.declared.symbol.Segment.TheVariants.{TextSeg, DataSeg}
use Rattle.aout_core.specs.{Refusals.refused, Contents.Contents, WellFormed.IsWellFormed, declared.symbol.Segment.Segment}
use Rattle.std.specs.{Prelude.Result, Prelude.Ok, Prelude.Err, List.AllByRecursion, List.list_any}
use Rattle.link_session.specs.{declared.cell.Cell.Cell, Labelled.objects, Undo.Kept, Image.named_states, Cells.cells}
use Rattle.link_session.proofs.{AdditionLemmas.well_formed, WellFormedLemmas.objects_refer}
use Rattle.tool_options.specs.Choices.{Choices}
use Rattle.link_out.specs.internal.FromCells.{finals, word_of_cell, reloc_of_cell, target_too_large}
use Rattle.link_out.specs.{function.Link.{Outcome, linked_header, linked_file, link_by, link}, Layouts.Bases, function.Plans.Plan}
use Rattle.link_out.specs.{function.Words.final_words, function.Finals.Final, internal.Headers.header_of, internal.InOrder.finals_from}
use Rattle.link_out.specs.{function.Tables.{table, final_relocs, has_too_large_in}, function.Reports.{entry_word, report_of}}
use Rattle.link_out.specs.{internal.Passes.IsPassed, internal.Planned.{plan_in, objects_in, AreShort}}
use Rattle.link_out.specs.{Outcomes.{IsLinkOf, outcome_of, report_names}, declared.linked.Linked.Linked}
use Rattle.link_out.specs.{declared.linked.LinkFault.LinkFault, declared.linked.LinkFault.TheVariants.Memory}
use Rattle.link_out.specs.declared.plan.Plan as code
use Rattle.link_out.proofs.CellRelocLemmas.{final_relocs-cells, has_too_large_in-cells}
use Rattle.link_out.proofs.{InOrderLemmas.finals-in_order, CellWordLemmas.final_words-cells, ObjectLemmas.linked_object}

-- the parts of a file are those of the link
pub linked_parts : (p : Plan) (os : List Contents) (c : Contents) → c.header ≡ linked_header p os →
    c.text_words ≡ final_words p TextSeg os → c.data_words ≡ final_words p DataSeg os →
    c.text_reloc ≡ cond p.choices.relocatable (final_relocs p os TextSeg) [] → c.data_reloc ≡ cond p.choices.relocatable
    (final_relocs p os DataSeg) [] → c.symbols ≡ table p os → c ≡ linked_file p os
linked_parts p os c header text datas text_reloc data_reloc symbols = search rules

-- what is computed from the cells and the names in order is what the link of a plan has
module _ (p : code.Plan) where
  abbrev planned : Plan
  planned = plan_in p

  abbrev os : List Contents
  os = objects_in p

  abbrev o : Choices
  o = p.options.now

  well : AllByRecursion IsWellFormed os
  well = well_formed os p.good

  -- what `finals_of` computes name by name
  pub names_planned : finals_from o p.bases 0 (named_states planned.mentions) ≡ finals planned
  names_planned = ap (λ (b : Bases). finals_from o b 0 (named_states planned.mentions)) p.at ∙ finals-in_order planned

  -- the header that `Plan::header` writes
  pub header_planned : (rows entry : ℕ) → rows ≡ length (table planned os) → entry ≡ entry_word planned o.entry →
      header_of o p.bases rows entry ≡ linked_header planned os
  header_planned rows entry many address = search rules

  -- what `words_of` computes cell by cell
  pub words_planned : (segment : Segment) (names : List Final) (cs : List Cell) → names ≡ finals planned →
      cs ≡ cells planned.mentions segment os → map (word_of_cell p.bases names segment) cs ≡ final_words planned segment os
  words_planned segment names cs named image =
      (λ i. map (word_of_cell (p.at i) (named i) segment) (image i))
      ∙ final_words-cells planned segment os (objects_refer p.session.now.forced segment os well)

  -- what `relocs_of` computes cell by cell
  pub relocs_planned : (segment : Segment) (names : List Final) (locals : ℕ) (cs : List Cell) → IsPassed planned os locals →
      names ≡ finals planned → cs ≡ cells planned.mentions segment os →
      cond o.relocatable (map (reloc_of_cell names locals) cs) [] ≡ cond o.relocatable (final_relocs planned os segment) []
  relocs_planned segment names locals cs passed named image =
      (λ i. cond o.relocatable (map (reloc_of_cell (named i) (passed.count i)) (image i)) [])
      ∙ ap (λ rs. cond o.relocatable rs []) (final_relocs-cells planned segment os (objects_refer p.session.now.forced segment os well))

  large_planned : (segment : Segment) (names : List Final) (locals : ℕ) (cs : List Cell) → IsPassed planned os locals →
      names ≡ finals planned → cs ≡ cells planned.mentions segment os →
      list_any (λ (c : Cell). target_too_large names locals c.target) cs ≡ has_too_large_in planned os segment
  large_planned segment names locals cs passed named image =
      (λ i. list_any (λ (c : Cell). target_too_large (named i) (passed.count i) c.target) (image i))
      ∙ has_too_large_in-cells planned segment os (objects_refer p.session.now.forced segment os well)

  -- no word of text waits for a name whose number is too large
  pub text_numbered : (names : List Final) (locals : ℕ) (cs : List Cell) → IsPassed planned os locals →
      names ≡ finals planned → cs ≡ cells planned.mentions TextSeg os → o.relocatable ≡ true →
      list_any (λ (c : Cell). target_too_large names locals c.target) cs ≡ false
  text_numbered names locals cs passed named image kept = search (rules, large_planned, or_parts)

  -- the same of data
  pub data_numbered : (names : List Final) (locals : ℕ) (cs : List Cell) → IsPassed planned os locals →
      names ≡ finals planned → cs ≡ cells planned.mentions DataSeg os → o.relocatable ≡ true →
      list_any (λ (c : Cell). target_too_large names locals c.target) cs ≡ false
  data_numbered names locals cs passed named image kept = search (rules, large_planned, or_parts)

-- if the end of bss fits a word, the other ends do
pub short_ends : (p : code.Plan) → p.bases.bss_end ≤ 65535 → AreShort p.bases
short_ends p h = record { text = p.text; «data» = omega (arith, h, p.order.1); bss = h }

-- the link that a plan in the code is of
module _ (p : code.Plan) (s : Kept) (o : Choices) (session : p.session.now ≡ s) (options : p.options.now ≡ o) where
  abbrev result : Result Outcome LinkFault
  result = link s.forced (objects s.entries) o

  -- `finish` returns the fault that refuses the link
  pub ends_refused : (r : Result Linked LinkFault) (fault : LinkFault) → r ≡ Err fault →
      link_by (plan_in p) (objects_in p) ≡ Err fault → IsLinkOf r result
  ends_refused r fault is h = search rules

  -- it returns `Memory` only for a link that there is
  pub ends_without_memory : (r : Result Linked LinkFault) (locals : ℕ) → r ≡ Err (Memory refused) →
      IsPassed (plan_in p) (objects_in p) locals → IsLinkOf r result
  ends_without_memory r locals is h = search rules

  -- the file and the report that it returns are those of the link
  pub ends_linked : (linked : Linked) (locals : ℕ) → IsPassed (plan_in p) (objects_in p) locals →
      linked.file ≡ linked_file (plan_in p) (objects_in p) →
      report_names linked.report ≡ report_of (plan_in p) → result ≡ Ok (outcome_of linked)
  ends_linked linked locals h file report = search rules

  -- with relocation the file is an object
  pub ends_object : (linked : Linked) → linked.file ≡ linked_file (plan_in p) (objects_in p) → o.relocatable ≡ true →
      IsWellFormed linked.file
  ends_object linked file kept =
      subst IsWellFormed (sym file)
      (linked_object p.session.now.forced (objects_in p) p.options.now p.allowed
      (ap (λ (c : Choices). c.relocatable) options ∙ kept) (well_formed (objects_in p) p.good))
