-- The relation of linking holds exactly of what a link answers, and of one file and report at most.
use Rattle.std.proofs.Common.{◌≡◌, ◌↔◌, ℕ, ◌+◌, ◌-◌, ◌*◌, ◌≤◌, Bool, true, false, cond, ◌&&◌, List, [], ◌∷◌, ◌++◌, map, length, Option}
use Rattle.std.proofs.{Common.{Some, None, refl, sym, ◌∙◌, ap, subst, arith, rules}, lemmas.Bool.{ltb-false, or_parts}}
use Rattle.std.specs.{Prelude.Result, Prelude.Ok, List.AllByRecursion}
use Rattle.aout_core.specs.{declared.symbol.Symbol.Symbol, declared.reloc.Reloc.Reloc, Contents.Contents, Addresses.data_start_in}
use Rattle.aout_core.specs.{declared.symbol.Segment.TheVariants.{TextSeg, DataSeg, BssSeg}, declared.header.Header.Header}
use Rattle.link_session.specs.Mentions.{Mention, mentions, names_by_first_mention, externals}
use Rattle.link_session.specs.{Starts.total, Sessions.IsObject, States.state}
use Rattle.tool_options.specs.{NameLists.is_among, Choices.Choices}
use Rattle.link_out.specs.function.Plans.{Plan, plan, commons_laid}
use Rattle.link_out.specs.function.Tables.{local_rows, external_row, external_rows, rows_kept, table, final_reloc, final_relocs}
use Rattle.link_out.specs.function.Tables.{has_too_large_in, has_number_too_large}
use Rattle.link_out.specs.function.Reports.{report_of, reserved_names, undefined_names, entry_word, entry_found_bad}
use Rattle.link_out.specs.{declared.linked.LinkFault.LinkFault, function.Words.final_words}
use Rattle.link_out.specs.{internal.InOrder.{finals_from, commons_size_in}, function.Link.{Outcome, linked_header, linked_file, link}}
use Rattle.laws.specs.{relation.LinkedFrom.IsLinkedFrom, relation.NameStates.IsWanted}
use Rattle.laws.specs.{relation.Relocated.{base_in, IsEntry}, relation.LinkedTable.{AreRows, moved_locals_in}}
use Rattle.laws.specs.{relation.LinkedWords.{AreRelocated, AreKept}, relation.Reported.{ArePicked, IsReported}}
use Rattle.link_out.proofs.InOrderLemmas.{named_by, finals-in_order, commons_size-all}
use Rattle.link_out.proofs.{partial_links.PartialLemmas.{IsProper, state_is_proper}, OutcomeLemmas.{IsMade, made, is_made, not_over}}
use Rattle.laws.proofs.RelocatedLemmas.{AreThere, relocated_at, relocated_whole, file_filled}
use Rattle.laws.proofs.LinkedRows.{GivesBases, IsLaid, are_rows, rows_are, rows_end, rows_at, rows_for_finals}
use Rattle.laws.proofs.LinkedReports.{others_of, others_picked, others_are, reserved_picked, reserved_are, undefined_picked}
use Rattle.laws.proofs.LinkedRelocs.{locals_same, kept_by, kept_whole}
use Rattle.laws.proofs.{LinkedReports.undefined_are, MoveLemmas.{data_begun, rest_back}, ExternalLemmas.{names_of_rows, entry_among}}
use Rattle.laws.proofs.{EntryPointLemmas.{entry_made, entry_once}, SegmentLemmas.made_length}

module _ (forced : List (List ℕ)) (os : List Contents) (o : Choices) where
  abbrev p : Plan
  p = plan forced os o

  abbrev ms : List Mention
  ms = mentions forced os

  abbrev names : List (List ℕ)
  names = names_by_first_mention (mentions forced os)

  abbrev bss : ℕ
  bss = total BssSeg os

  -- the header of the link, but for these two words
  abbrev header_with : ℕ → ℕ → Header
  header_with symbol_size entry_point = record (linked_header p os) { symbol_size = symbol_size; entry_point = entry_point }

  gives_bases : (s e : ℕ) → GivesBases (header_with s e) bss p.at
  gives_bases s e = search (rules, data_begun, rest_back, sums)
    where
      sums : (a b d c n : ℕ) → a ≡ b → a + d + (c + n) ≡ b + d + c + n
      sums a b d c n e = omega arith

  rows_finals : rows_at names (finals_from o p.at 0 (named_by ms names)) ≡ external_rows p
  rows_finals = ap (λ fs. rows_at names fs) (finals-in_order p) ∙ rows_for_finals p names

  proper : (name : List ℕ) → IsProper (state ms name)
  proper name = state_is_proper forced os name

  there : AreThere forced os o (external_rows p)
  there name known =
      entry_among p names name ∙ ap (λ (t : Bool). let r : Option Symbol = cond t (Some (external_row p name)) None in r) known

  -- one direction: what the function `link` gives has each part of the relation

  module _ (good : AllByRecursion IsObject os) (x : Outcome) (m : IsMade p os x) where
    abbrev h : Header
    h = linked_header p os

    abbrev at : ℕ
    at = data_start_in h + h.data_size

    abbrev end : ℕ
    end = base_in h bss BssSeg

    given : GivesBases h bss p.at
    given = gives_bases (12 * length (table p os)) (entry_word p o.entry)

    fits : p.at.bss_end ≤ 65535
    fits = ltb-false 65535 p.at.bss_end m.short

    short : end ≤ 65535
    short = less (data_start_in h + h.data_size) h.bss_size bss p.at.bss_end given.bss_end fits
      where
        less : (a b n e : ℕ) → a + b ≡ e → e ≤ 65535 → a + (b - n) ≤ 65535
        less a b n e f g = omega arith

    lies : IsLaid o p.at at 0 end (commons_size_in (named_by ms names))
    lies = search (rules, commons_size-all)

    shown : AreRows h bss o ms at (external_rows p) end
    shown =
        subst (λ (rs : List Symbol). AreRows h bss o ms at rs end) rows_finals
        (are_rows h bss o p.at given ms proper end short names at 0 lies)

    -- no number is too large where relocation is kept
    numbered : o.relocatable ≡ true → (has_too_large_in p os TextSeg ≡ false) × (has_too_large_in p os DataSeg ≡ false)
    numbered r =
        or_parts (has_too_large_in p os TextSeg) (has_too_large_in p os DataSeg)
        (ap (λ (t : Bool). t && has_number_too_large p os) (sym r) ∙ m.numbered)

    relocs_long : (t : Bool) (rs : List Reloc) (n : ℕ) → 2 * length rs ≡ n → 2 * length (cond t rs []) ≡ cond t n 0
    relocs_long true rs n e = e
    relocs_long false rs n e = refl

    reported : IsReported forced os o (record { file = linked_file p os; report = report_of p })
    reported = record {
      others = others_of ms;
      picked = others_picked ms;
      multiples = refl;
      reserved = reserved_picked ms;
      undefined =
          λ r. subst (λ (t : Bool). ArePicked (λ name. IsWanted ms name 0 × (is_among reserved_names name ≡ false))
          (externals forced os) (cond t [] (undefined_names ms))) (sym r) (undefined_picked ms (externals forced os));
      none = λ r. ap (λ (t : Bool). let ns : List (List ℕ) = cond t [] (undefined_names ms) in ns) r;
    }

    linked : IsLinkedFrom forced os o (record { file = linked_file p os; report = report_of p })
    linked = record {
      rows = external_rows p;
      holds = file_filled forced os o good;
      header = search (rules, short, fits, ltb-false);
      names = names_of_rows p names;
      are_rows = shown;
      table = ap (λ (ls : List Symbol). rows_kept o.keep (ls ++ external_rows p)) (sym (locals_same forced os o));
      text = λ before k after all i w r ew er. relocated_at forced os o (external_rows p) there good before k after all TextSeg i w r ew er;
      «data» =
          λ before k after all i w r ew er.
          relocated_at forced os o (external_rows p) there good before k after all DataSeg i w r ew er;
      text_relocs =
          relocs_long o.relocatable (final_relocs p os TextSeg) (total TextSeg os)
          (made_length (λ earlier c w r. final_reloc p os c r) TextSeg tt [] os good);
      data_relocs =
          relocs_long o.relocatable (final_relocs p os DataSeg) (total DataSeg os)
          (made_length (λ earlier c w r. final_reloc p os c r) DataSeg tt [] os good);
      text_kept =
          λ r. subst (λ (n : ℕ). AreKept (linked_file p os) (external_rows p) n os TextSeg)
          (ap (λ (ls : List Symbol). length ls) (sym (locals_same forced os o)))
          (kept_by forced os o (linked_file p os) TextSeg tt good
          (ap (λ (t : Bool). let rs : List Reloc = cond t (final_relocs p os TextSeg) [] in rs) r) (numbered r).0);
      data_kept =
          λ r. subst (λ (n : ℕ). AreKept (linked_file p os) (external_rows p) n os DataSeg)
          (ap (λ (ls : List Symbol). length ls) (sym (locals_same forced os o)))
          (kept_by forced os o (linked_file p os) DataSeg tt good
          (ap (λ (t : Bool). let rs : List Reloc = cond t (final_relocs p os DataSeg) [] in rs) r) (numbered r).1);
      entry = entry_made p (external_rows p) (entry_among p names) o.entry;
      report = reported;
    }

  -- the other: a file and a report that have each part are those that `link` gives. First the header is known but for two words, by it
  -- the rows, by these the table and the entry point, and by all of them the words

  module _ (good : AllByRecursion IsObject os) (x : Outcome) (l : IsLinkedFrom forced os o x) where
    abbrev g : Header
    g = x.file.header

    -- the rows' commons and the objects' bytes are bss
    bss_same : g.bss_size ≡ commons_laid o ms + bss
    bss_same = search (rules, named_by, rows_end, commons_size-all, sums)
      where
        sums : (a r c b n : ℕ) → a + r ≡ a + (b - n) → r ≡ c → n ≤ b → b ≡ c + n
        sums a r c b n e f k = omega arith

    sizes : g ≡ header_with g.symbol_size g.entry_point
    sizes = search (rules, bss_same)

    gives_back : GivesBases g bss p.at
    gives_back = subst (λ (k : Header). GivesBases k bss p.at) (sym sizes) (gives_bases g.symbol_size g.entry_point)

    rows_same : l.rows ≡ external_rows p
    rows_same = search (rules, rows_are, gives_back, proper, less, rows_end, rows_at, named_by, rows_finals)
      where
        less : (a b n : ℕ) → a + b ≤ 65535 → a + (b - n) ≤ 65535
        less a b n e = omega arith

    locals_back : moved_locals_in g os o ≡ local_rows p os
    locals_back = ap (λ (k : Header). moved_locals_in k os o) sizes ∙ locals_same forced os o

    symbols_same : x.file.symbols ≡ table p os
    symbols_same = l.table ∙ (λ i. rows_kept o.keep (locals_back i ++ rows_same i))

    entry_same : (g.entry_point ≡ entry_word p o.entry) × (x.report.entry_bad ≡ entry_found_bad p o.entry)
    entry_same = entry_once (external_rows p) o.entry g.entry_point (entry_word p o.entry) x.report.entry_bad (entry_found_bad p o.entry)
        (subst (λ (rs : List Symbol). IsEntry rs o.entry g.entry_point x.report.entry_bad) rows_same
        l.entry) (entry_made p (external_rows p) (entry_among p names) o.entry)

    header_same : g ≡ linked_header p os
    header_same =
        sizes ∙ (λ i. header_with ((l.header.symbol_size ∙ ap (λ (ss : List Symbol). 12 * length ss) symbols_same) i) (entry_same.0 i))

    text_same : x.file.text_words ≡ final_words p TextSeg os
    text_same =
        relocated_whole forced os o (external_rows p) there good x.file header_same TextSeg tt l.holds.text_words
        (subst (λ (rs : List Symbol). AreRelocated x.file rs os TextSeg) rows_same l.text)

    data_same : x.file.data_words ≡ final_words p DataSeg os
    data_same =
        relocated_whole forced os o (external_rows p) there good x.file header_same DataSeg tt l.holds.data_words
        (subst (λ (rs : List Symbol). AreRelocated x.file rs os DataSeg) rows_same l.data)

    record AreSame : Type 0 where
      text : x.file.text_reloc ≡ cond o.relocatable (final_relocs p os TextSeg) []
      «data» : x.file.data_reloc ≡ cond o.relocatable (final_relocs p os DataSeg) []
      numbered : (o.relocatable && has_number_too_large p os) ≡ false

    relocs_same : AreSame
    relocs_same = by_test o.relocatable refl
      where
        none : (rs : List Reloc) → 2 * length rs ≡ 0 → rs ≡ []
        none [] e = refl
        none (r ∷ rs) e = absurd (omega arith)

        by_test : (t : Bool) → o.relocatable ≡ t → AreSame
        by_test false e = search (rules, none, numbered)
        by_test true e =
            let count : length (moved_locals_in g os o) ≡ length (local_rows p os) = ap (λ (ls : List Symbol). length ls) locals_back in
            let text = kept_whole forced os o x.file TextSeg tt good (l.text_relocs ∙ ap (λ (t : Bool). cond t (total TextSeg os) 0) e)
            (subst (λ (rs : List Symbol). AreKept x.file rs (length (local_rows p os)) os TextSeg) rows_same
            (subst (λ (n : ℕ). AreKept x.file l.rows n os TextSeg) count (l.text_kept e))) in
            let datas =
            kept_whole forced os o x.file DataSeg tt good (l.data_relocs ∙ ap (λ (t : Bool). cond t (total DataSeg os) 0) e)
            (subst (λ (rs : List Symbol). AreKept x.file rs (length (local_rows p os)) os DataSeg) rows_same
            (subst (λ (n : ℕ). AreKept x.file l.rows n os DataSeg) count (l.data_kept e))) in
            search (rules, numbered)

    undefined_same : x.report.undefined ≡ cond o.relocatable [] (undefined_names ms)
    undefined_same = by_test o.relocatable refl
      where
        by_test : (t : Bool) → o.relocatable ≡ t → x.report.undefined ≡ cond t [] (undefined_names ms)
        by_test true e = l.report.none e
        by_test false e = undefined_are ms (externals forced os) x.report.undefined (l.report.undefined e)

    report_same : report_of p ≡ x.report
    report_same = λ i. record {
      multiples =
          sym (l.report.multiples ∙ ap (λ (ks : List Mention). map (λ m. m.name) ks) (others_are ms l.report.others l.report.picked)) i;
      reserved = sym (reserved_are ms x.report.reserved l.report.reserved) i;
      entry_bad = sym entry_same.1 i;
      undefined = sym undefined_same i;
    }

    file_same : linked_file p os ≡ x.file
    file_same = λ i. record {
      header = sym header_same i;
      text_words = sym text_same i;
      data_words = sym data_same i;
      text_reloc = sym relocs_same.text i;
      data_reloc = sym relocs_same.data i;
      symbols = sym symbols_same i;
    }

    answered : IsMade p os x
    answered = record {
      short = not_over 65535 p.at.bss_end (subst (λ (n : ℕ). n ≤ 65535) gives_back.bss_end l.header.short);
      few = not_over 5461 (length (table p os)) (subst (λ (ss : List Symbol). length ss ≤ 5461) symbols_same l.header.few);
      numbered = relocs_same.numbered;
      outcome = λ i. record { file = file_same i; report = report_same i };
    }

-- the relation of linking holds of what a link gives, and of nothing else
pub linked_exactly : (forced : List (List ℕ)) (os : List Contents) (o : Choices) (x : Outcome) →
    AllByRecursion IsObject os → (link forced os o ≡ Ok x) ↔ IsLinkedFrom forced os o x
linked_exactly forced os o x good = (
  (λ h. let m = made (plan forced os o) os x h in
      subst (λ (y : Outcome). IsLinkedFrom forced os o y) m.outcome (linked forced os o good x m)),
  (λ l. is_made (plan forced os o) os x (answered forced os o good x l)),
)

-- it holds of one file and one report
pub linked_once : (forced : List (List ℕ)) (os : List Contents) (o : Choices) (x y : Outcome) →
    AllByRecursion IsObject os → IsLinkedFrom forced os o x → IsLinkedFrom forced os o y → x ≡ y
linked_once forced os o x y good h k = same x y (sym ((linked_exactly forced os o x good).1 h) ∙ (linked_exactly forced os o y good).1 k)
  where
    same : (x y : Outcome) → (let r : Result Outcome LinkFault = Ok x in r) ≡ Ok y → x ≡ y
    same x y e = cc
