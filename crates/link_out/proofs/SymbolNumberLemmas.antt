-- A number that is too large by the states of the names is so by what becomes of them.
use Rattle.std.proofs.{Common.{◌≡◌, ℕ, Bool, true, ◌||◌, List, length, ◌∙◌, rules}, lemmas.Option.slice_get-map}
use Rattle.std.specs.{Prelude.slice_get, List.list_any, List.AllByRecursion}
use Rattle.aout_core.specs.declared.symbol.Segment.TheVariants.{TextSeg, DataSeg}
use Rattle.aout_core.specs.{declared.symbol.Segment.Segment, Contents.Contents, WellFormed.IsWellFormed}
use Rattle.link_session.specs.{declared.cell.Cell.Cell, declared.cell.Target.Target, declared.state.State.State, Cells.{cells, words_of}}
use Rattle.link_session.specs.{Image.{image, named_states}, Mentions.names_of, Sessions.IsObject}
use Rattle.link_session.specs.declared.cell.Target.TheVariants as targets
use Rattle.link_session.proofs.{CellLemmas.AllReferAmong, AdditionLemmas.well_formed, WellFormedLemmas.objects_refer}
use Rattle.tool_options.specs.Choices.{Choices, lays_commons}
use Rattle.link_out.specs.{function.Finals.final_by, internal.FromCells.{bound_of, finals, target_too_large}, function.Plans.{Plan, plan}}
use Rattle.link_out.specs.function.Tables.{local_rows, has_too_large_in, has_number_too_large}
use Rattle.link_out.specs.internal.SymbolNumbers.{kept_bound, kept_bound_of, is_too_large}
use Rattle.link_out.proofs.CellRelocLemmas.{has_too_large_in-cells}

module _ (p : Plan) (kept : p.choices.relocatable ≡ true) where
  -- a name is bound by its state as it is in the end
  bound_by : (name : List ℕ) (s : State) → kept_bound (lays_commons p.choices) s ≡ (final_by p name s).bound
  bound_by name s = search rules

  bound_at_place : (i : ℕ) →
      kept_bound_of (lays_commons p.choices) (slice_get (named_states p.mentions) i) ≡ bound_of (slice_get (finals p) i)
  bound_at_place i = search (rules, slice_get-map, bound_by)

  same_too_large : (locals : ℕ) (t : Target) → is_too_large (named_states p.mentions) (lays_commons p.choices) locals t
      ≡ target_too_large (finals p) locals t
  same_too_large locals t = search (rules, bound_at_place)

  same_too_large_in : (os : List Contents) (segment : Segment) (locals : ℕ) → locals ≡ length (local_rows p os) →
      AllByRecursion (λ o. AllReferAmong (names_of p.mentions) o (words_of segment o)) os →
      list_any (λ (c : Cell). is_too_large (named_states p.mentions) (lays_commons p.choices) locals c.target)
      (cells p.mentions segment os) ≡ has_too_large_in p os segment
  same_too_large_in os segment locals many refer = search (rules, same_too_large, has_too_large_in-cells)

-- the words of a session's objects, from its cells of text and of data
pub large_word : (forced : List (List ℕ)) (os : List Contents) (o : Choices) (locals : ℕ) (text datas : List Cell)
    (commons in_text in_data : Bool) → o.relocatable ≡ true →
    locals ≡ length (local_rows (plan forced os o) os) → AllByRecursion IsObject os → commons ≡ lays_commons o →
    text ≡ (image forced os).text_cells → datas ≡ (image forced os).data_cells →
    in_text ≡ list_any (λ (c : Cell). is_too_large (image forced os).externals commons locals c.target) text →
    in_data ≡ list_any (λ (c : Cell). is_too_large (image forced os).externals commons locals c.target) datas →
    (in_text || in_data) ≡ has_number_too_large (plan forced os o) os
large_word forced os o locals text datas commons in_text in_data kept many good laid t d large_text large_data =
    let p = plan forced os o in
    let well : AllByRecursion IsWellFormed os = well_formed os good in
    (λ i. large_text i || large_data i)
    ∙ (λ i. list_any (λ (c : Cell). is_too_large (image forced os).externals (laid i) locals c.target) (t i)
    || list_any (λ (c : Cell). is_too_large (image forced os).externals (laid i) locals c.target) (d i))
    ∙ (λ i. same_too_large_in p kept os TextSeg locals many (objects_refer forced TextSeg os well) i
    || same_too_large_in p kept os DataSeg locals many (objects_refer forced DataSeg os well) i)
