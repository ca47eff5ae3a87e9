use Rattle.std.proofs.Common.{◌≡◌, ◌∙◌, ◌++◌, length, ap, sym, rules, arith, List}
use Rattle.aout_core.specs.declared.symbol.Symbol.{Symbol}
use Rattle.link_session.specs.{Labelled.objects, Starts.no_starts, Undo.image_of}
use Rattle.link_out.specs.{function.Finals.Final, function.Tables.local_rows, function.Tables.external_rows, internal.Planned.plan_in}
use Rattle.link_out.specs.{internal.Planned.objects_in, internal.Rows.rows_from, internal.Rows.rows_with, internal.Rows.kept_count}
use Rattle.link_out.proofs.RowLemmas.{rows_from-local_rows, rows_planned, table_whole, length-local_rows}
use Rattle.link_out.proofs.table.table.Goals as goal
use Rattle.tool_options.specs.declared.options.Keep.TheVariants as keeps

pub kept_locals-requires : goal.kept_locals-requires
kept_locals-requires c =
    let p = c.args.plan.now in
    let kept : kept_count p.keep (objects p.entries.now) ≡ c.args.locals =
    (λ i. kept_count (p.keep_of i) (objects (p.entries_of i)))
    ∙ sym (length-local_rows (plan_in p) (objects_in p)) ∙ sym c.requires.locals in
    omega (arith, kept)

pub put_externals-requires : goal.put_externals-requires
put_externals-requires c =
    let p = c.args.plan.now in
    let kept : kept_count p.keep (objects p.entries.now) ≡ c.args.locals =
    (λ i. kept_count (p.keep_of i) (objects (p.entries_of i)))
    ∙ sym (length-local_rows (plan_in p) (objects_in p)) ∙ sym c.requires.locals in
    omega (arith, kept, c.in_ok-rows.ensures.len, c.in_ok-rows.ensures.space, c.external_count.ensures)

pub returns : goal.returns
returns c =
    let p = c.args.plan.now in
    let os = objects_in p in
    let names = (image_of p.session.now).externals in
    let rows = c.in_ok-rows.rows.items in
    let others : p.keep ≡ keeps.Nothing → ⊥ = search rules in
    let locals : rows ≡ local_rows (plan_in p) os =
    c.in_ok-rows.ensures.rows
    ∙ (λ i. rows_from (p.at i) (p.keep_of i) no_starts (objects (p.entries_of i)))
    ∙ rows_from-local_rows (plan_in p) os in
    let externals : rows_with names c.args.finals.now ≡ external_rows (plan_in p) =
    ap (λ (l : List Final). rows_with names l) c.requires.finals ∙ rows_planned (plan_in p) in
    table_whole (plan_in p) os p.keep rows c.put_externals.new.rows.items (sym p.keep_of)
    others locals (c.put_externals.ensures ∙ ap (λ (l : List Symbol). rows ++ l) externals)
