use Rattle.std.proofs.Common.{sym, ◌∙◌}
use Rattle.link_session.proofs.BindingLemmas.{chain_begun, chain_inside, chain_step, chain_shorter}
use Rattle.link_session.proofs.bind.bind_chain.Goals as goal

pub loop-place-init : goal.loop-place-init
loop-place-init c = chain_begun c.args.definition c.args.head c.args.image.now c.args.marks.now.items c.requires

pub bind_cell-requires : goal.bind_cell-requires
bind_cell-requires c =
    chain_inside c.args.definition c.args.head c.loop-place.next c.args.image.now c.loop-place.image c.args.marks.now.items
    c.loop-place.marks.items c.loop-place.invariant c.in-Some.place (sym c.place.ensures ∙ c.in-Some.is)

pub loop-place-smaller : goal.loop-place-smaller
loop-place-smaller c =
    chain_shorter c.args.definition c.args.head c.loop-place.next c.args.image.now c.loop-place.image c.args.marks.now.items
    c.loop-place.marks.items c.loop-place.invariant c.in-Some.place (sym c.place.ensures ∙ c.in-Some.is) c.bind_cell.new.image
    c.bind_cell.new.marks.items c.in_default-bind_cell.ensures.ok c.link_at-next.result c.link_at-next.ensures

pub loop-place-preserved : goal.loop-place-preserved
loop-place-preserved c =
    chain_step c.args.definition c.args.head c.loop-place.next c.args.image.now c.loop-place.image c.args.marks.now.items
    c.loop-place.marks.items c.loop-place.invariant c.in-Some.place (sym c.place.ensures ∙ c.in-Some.is) c.bind_cell.new.image
    c.bind_cell.new.marks.items c.in_default-bind_cell.ensures.ok c.link_at-next.result c.link_at-next.ensures
