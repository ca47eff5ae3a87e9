use Rattle.std.proofs.Common.{◌≡◌, ◌∙◌, ◌||◌, Bool, ap, sym}
use Rattle.link_out.specs.{internal.Planned.plan_in, internal.Planned.objects_in, function.Tables.has_number_too_large}
use Rattle.link_out.proofs.SymbolNumberLemmas.{large_word}
use Rattle.link_out.proofs.symbol_numbers.has_number_too_large.Goals as goal

pub returns-then-in_text : goal.returns-then-in_text
returns-then-in_text c =
    let p = c.args.plan.now in
    let any : (c.is_any_too_large-in_text.result || c.is_any_too_large-in_data.result) ≡ has_number_too_large (plan_in p) (objects_in p) =
    large_word p.session.now.forced (objects_in p) p.options.now c.args.locals c.text_cells.result.now
    c.data_cells.result.now c.lays_commons-commons.result c.is_any_too_large-in_text.result c.is_any_too_large-in_data.result
    c.requires.relocatable c.requires.locals p.good c.lays_commons-commons.ensures c.text_cells.ensures.value c.data_cells.ensures.value
    c.is_any_too_large-in_text.ensures c.is_any_too_large-in_data.ensures in
    c.if-in_text.true ∙ ap (λ (x : Bool). x || c.is_any_too_large-in_data.result) (sym c.if-in_text.true) ∙ any

pub returns-else-in_text : goal.returns-else-in_text
returns-else-in_text c =
    let p = c.args.plan.now in
    let any : (c.is_any_too_large-in_text.result || c.is_any_too_large-in_data.result) ≡ has_number_too_large (plan_in p) (objects_in p) =
    large_word p.session.now.forced (objects_in p) p.options.now c.args.locals c.text_cells.result.now
    c.data_cells.result.now c.lays_commons-commons.result c.is_any_too_large-in_text.result c.is_any_too_large-in_data.result
    c.requires.relocatable c.requires.locals p.good c.lays_commons-commons.ensures c.text_cells.ensures.value c.data_cells.ensures.value
    c.is_any_too_large-in_text.ensures c.is_any_too_large-in_data.ensures in
    ap (λ (x : Bool). x || c.is_any_too_large-in_data.result) (sym c.if-in_text.false) ∙ any
