use Rattle.std.proofs.Common.{◌≡◌, ◌∙◌, ◌++◌}
use Rattle.link_session.specs.Undo.{image_of}
use Rattle.link_out.specs.{function.Plans.plan_of, internal.Rows.rows_with}
use Rattle.link_out.specs.internal.FromCells as from_cells
use Rattle.link_out.proofs.RowLemmas.{rows_planned}
use Rattle.link_out.proofs.externals.link_externals.Goals as goal

pub returns-clause-rows : goal.returns-clause-rows
returns-clause-rows c =
    let s = c.args.session.now in
    let o = c.args.options.now in
    let names = (image_of s).externals in
    let finals : c.deref.result.now ≡ from_cells.finals (plan_of s o) =
    c.deref.ensures.value ∙ c.in_ok-finals.ensures
    ∙ (λ i. from_cells.finals (plan_of (c.of-plan.ensures.session i) (c.of-plan.ensures.options i))) in
    c.put_externals.ensures
    ∙ (λ i. c.in_ok-rows.ensures.items i ++ rows_with names (finals i))
    ∙ rows_planned (plan_of s o)
