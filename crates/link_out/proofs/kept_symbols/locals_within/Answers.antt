use Rattle.std.proofs.{Common.◌≡◌, Common.rules, Common.◌∙◌, Common.sym, lemmas.List.length-map}
use Rattle.link_session.specs.Mentions.{names_by_first_mention}
use Rattle.link_out.specs.internal.Planned.{plan_in, objects_in}
use Rattle.link_out.proofs.RowLemmas.{many_rows, locals_counted, none_counted}
use Rattle.link_out.proofs.kept_symbols.locals_within.Goals as goal
use Rattle.tool_options.specs.declared.options.Keep.TheVariants as keeps

pub returns-then-eq-clause-count : goal.returns-then-eq-clause-count
returns-then-eq-clause-count c =
    let nothing : c.args.plan.now.keep ≡ keeps.Nothing = search rules in
    none_counted (plan_in c.args.plan.now) (objects_in c.args.plan.now) c.args.plan.now.keep (sym c.args.plan.now.keep_of) nothing

pub returns-clause-many : goal.returns-clause-many
returns-clause-many c =
    let p = plan_in c.args.plan.now in
    let others : c.args.plan.now.keep ≡ keeps.Nothing → ⊥ = search rules in
    let h = c.count_locals.ensures.many in
    many_rows p (objects_in c.args.plan.now) c.args.plan.now.keep c.external_count.result c.count_locals.result
    (sym c.args.plan.now.keep_of) others
    (c.external_count.ensures ∙ length-map (names_by_first_mention p.mentions) _)
    (rw c.args.plan.now.entries_of at h)

pub returns-clause-count : goal.returns-clause-count
returns-clause-count c =
    let h = c.count_locals.ensures.count in
    locals_counted (plan_in c.args.plan.now) (objects_in c.args.plan.now) c.args.plan.now.keep c.count_locals.result
    (sym c.args.plan.now.keep_of) (rw c.args.plan.now.entries_of at h)
