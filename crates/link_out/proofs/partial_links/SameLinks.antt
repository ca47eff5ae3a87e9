-- Two lists of objects with the same names, states, sizes, cells and kept locals have the same link, but for the multiples.
use Rattle.std.proofs.Common.{◌≡◌, ℕ, Bool, cond, not, List, map, length, Option, refl, sym, ◌∙◌, ap, [], ◌+◌, ◌*◌, rules}
use Rattle.std.specs.{Prelude.{filter, Ok, Err, Result, sum_by}, List.{list_any, AllByRecursion}}
use Rattle.aout_core.specs.declared.symbol.Segment.TheVariants.{TextSeg, DataSeg, BssSeg}
use Rattle.aout_core.specs.{declared.symbol.Segment.Segment, Contents.Contents, WellFormed.IsWellFormed}
use Rattle.link_session.specs.Mentions.{Mention, mentions, names_by_first_mention}
use Rattle.link_session.specs.{declared.cell.Cell.Cell, declared.state.State.State, Cells.cells}
use Rattle.link_session.specs.States as states
use Rattle.tool_options.specs.{Choices.Choices, Choices.lays_commons}
use Rattle.link_session.proofs.{WellFormedLemmas.objects_refer, NeighbourLemmas.AreAsLong}
use Rattle.link_out.specs.declared.linked.LinkFault.TheVariants.{DoesNotFit, TooManySymbols, SymbolNumber}
use Rattle.link_out.specs.{function.Plans.{Plan, plan, commons_laid, common_size, commons_size, commons_total}, function.Finals.final}
use Rattle.link_out.specs.function.Tables.{local_rows, external_rows, table, final_relocs, has_too_large_in}
use Rattle.link_out.specs.function.Reports.{report_of, entry_word, entry_found_bad, is_undefined, reserved_taken, undefined_names}
use Rattle.link_out.specs.{function.Reports.reserved_names, internal.FromCells.{finals, word_of_cell, reloc_of_cell, target_too_large}}
use Rattle.link_out.specs.{declared.linked.LinkFault.LinkFault, Layouts.{Bases, bases, magic_of}, function.Words.final_words}
use Rattle.link_out.specs.function.Link.{Outcome, linked_file, link}
use Rattle.link_out.proofs.{CellWordLemmas.final_words-cells, CellRelocLemmas.final_relocs-cells, CellRelocLemmas.has_too_large_in-cells}

-- two plans with the same options and bases, whose mentions give the same names and states
module _ (o : Choices) (b : Bases) (ms ns : List Mention) (names : names_by_first_mention ms ≡ names_by_first_mention ns)
    (states_alike : (n : List ℕ) → states.state ms n ≡ states.state ns n) where
  abbrev first : Plan
  first = record { choices = o; mentions = ms; at = b }

  abbrev second : Plan
  second = record { choices = o; mentions = ns; at = b }

  same_room : (xs : List (List ℕ)) → commons_size ms xs ≡ commons_size ns xs
  same_room xs = ap (λ (f : List ℕ → ℕ). sum_by f xs) (λ i n. common_size (states_alike n i))

  same_total : commons_total ms ≡ commons_total ns
  same_total = same_room (names_by_first_mention ms) ∙ ap (λ (xs : List (List ℕ)). commons_size ns xs) names

  same_final : (name : List ℕ) → final first name ≡ final second name
  same_final name = search rules

  same_external_rows : external_rows first ≡ external_rows second
  same_external_rows = search rules

-- the same answer, but for the multiples in its report
abbrev pub with_multiples : List (List ℕ) → Result Outcome LinkFault → Result Outcome LinkFault
with_multiples names (Err fault) = Err fault
with_multiples names (Ok x) = Ok (record x { report = record x.report { multiples = names } })

-- what a link answers, by its three tests
abbrev answer : Bool → Bool → Bool → Outcome → Result Outcome LinkFault
answer t u v x = cond t (Err DoesNotFit) (cond u (Err TooManySymbols) (cond v (Err SymbolNumber) (Ok x)))

answer_with : (names : List (List ℕ)) (t u v : Bool) (x : Outcome) →
    answer t u v (record x { report = record x.report { multiples = names } }) ≡ with_multiples names (answer t u v x)
answer_with names t u v x = search rules

-- with its own multiples a link is what it is
pub own_multiples : (forced : List (List ℕ)) (os : List Contents) (o : Choices) →
    with_multiples (states.multiple_names (mentions forced os)) (link forced os o) ≡ link forced os o
own_multiples forced os o = search rules

-- the objects of two links
pub record AreAlike (forced : List (List ℕ)) (xs ys : List Contents) : Type 0 where
  pub names : names_by_first_mention (mentions forced xs) ≡ names_by_first_mention (mentions forced ys)
  pub states_alike : (name : List ℕ) → states.state (mentions forced xs) name ≡ states.state (mentions forced ys) name
  pub as_long : AreAsLong xs ys
  pub text : cells (mentions forced xs) TextSeg xs ≡ cells (mentions forced ys) TextSeg ys
  pub «data» : cells (mentions forced xs) DataSeg xs ≡ cells (mentions forced ys) DataSeg ys
  pub good_xs : AllByRecursion IsWellFormed xs
  pub good_ys : AllByRecursion IsWellFormed ys

module _ (forced : List (List ℕ)) (xs ys : List Contents) (alike : AreAlike forced xs ys) (o : Choices)
    (locals : (ms ns : List Mention) (at : Bases) → local_rows (record { choices = o; mentions = ms; at = at }) xs
    ≡ local_rows (record { choices = o; mentions = ns; at = at }) ys) where
  abbrev ms : List Mention
  ms = mentions forced xs

  abbrev ns : List Mention
  ns = mentions forced ys

  abbrev b : Bases
  b = (plan forced ys o).at

  abbrev one : Plan
  one = record { choices = o; mentions = ms; at = b }

  abbrev all : Plan
  all = plan forced ys o

  same_locals : local_rows one xs ≡ local_rows all ys
  same_locals = locals ms ns b

  finals_alike : (n : List ℕ) → final one n ≡ final all n
  finals_alike = same_final o b ms ns alike.names alike.states_alike

  tables : table one xs ≡ table all ys
  tables = search (rules, same_locals, same_external_rows)

  lists : finals one ≡ finals all
  lists = search (rules, finals_alike)

  words : (segment : Segment) → cells ms segment xs ≡ cells ns segment ys → final_words one segment xs ≡ final_words all segment ys
  words segment same = sym (final_words-cells one segment xs (objects_refer forced segment xs alike.good_xs))
      ∙ (λ i. map (word_of_cell b (lists i) segment) (same i))
      ∙ final_words-cells all segment ys (objects_refer forced segment ys alike.good_ys)

  relocs : (segment : Segment) → cells ms segment xs ≡ cells ns segment ys → final_relocs one xs segment ≡ final_relocs all ys segment
  relocs segment same = sym (final_relocs-cells one segment xs (objects_refer forced segment xs alike.good_xs))
      ∙ (λ i. map (reloc_of_cell (lists i) (length (same_locals i))) (same i))
      ∙ final_relocs-cells all segment ys (objects_refer forced segment ys alike.good_ys)

  same_large : (segment : Segment) → cells ms segment xs ≡ cells ns segment ys → has_too_large_in one xs segment
      ≡ has_too_large_in all ys segment
  same_large segment same = sym (has_too_large_in-cells one segment xs (objects_refer forced segment xs alike.good_xs))
      ∙ (λ i. list_any (λ (c : Cell). target_too_large (lists i) (length (same_locals i)) c.target) (same i))
      ∙ has_too_large_in-cells all segment ys (objects_refer forced segment ys alike.good_ys)

  entries : (e : Option (List ℕ)) → entry_word one e ≡ entry_word all e
  entries e = search rules

  bad_entries : (e : Option (List ℕ)) → entry_found_bad one e ≡ entry_found_bad all e
  bad_entries e = search rules

  taken : reserved_taken ms ≡ reserved_taken ns
  taken = ap (λ (f : List ℕ → State). filter (λ n. not (is_undefined (f n))) reserved_names) (λ i n. alike.states_alike n i)

  undefined : undefined_names ms ≡ undefined_names ns
  undefined = search rules

  reports : report_of one ≡ record (report_of all) { multiples = states.multiple_names ms }
  reports = let e = bad_entries o.entry in rw (taken, undefined, e) refl

  laid : commons_laid o ms ≡ commons_laid o ns
  laid = ap (λ (n : ℕ). cond (lays_commons o) n 0) (same_total o b ms ns alike.names alike.states_alike)

  files : linked_file one xs ≡ linked_file all ys
  files = λ i. let c : Contents = record {
    header = record {
      magic = magic_of o.layout;
      text_size = alike.as_long TextSeg i;
      data_size = alike.as_long DataSeg i;
      bss_size = laid i + alike.as_long BssSeg i;
      symbol_size = 12 * length (tables i);
      entry_point = entries o.entry i;
      unused = 0;
      flag = cond o.relocatable 0 1;
    };
    text_words = words TextSeg alike.text i;
    data_words = words DataSeg alike.data i;
    text_reloc = cond o.relocatable (relocs TextSeg alike.text i) [];
    data_reloc = cond o.relocatable (relocs DataSeg alike.data i) [];
    symbols = tables i;
  } in c

  same_bases : (plan forced xs o).at ≡ b
  same_bases = λ i. bases o.layout (alike.as_long TextSeg i) (alike.as_long DataSeg i) (laid i) (alike.as_long BssSeg i)

  -- the same file or the same refusal, and reports that differ at most in the multiples
  pub same_link : link forced xs o ≡ with_multiples (states.multiple_names ms) (link forced ys o)
  same_link = search (rules, same_bases, tables, same_large, files, reports, answer_with)
