use Rattle.std.proofs.Common.{length, ◌+◌}
use Rattle.link_session.specs.{internal.Chains.walk, internal.Bindings.BindsTo}
use Rattle.link_session.proofs.bind.bind_chain.Given as goal

-- the places after are bound, and those ahead are left
abbrev pub invariant-loop-place : goal.invariant-loop-place
invariant-loop-place l =
    BindsTo l.definition l.fn.head l.next l.initial.image l.image l.initial.marks.items l.marks.items

-- the places ahead
abbrev pub decreases-loop-place : goal.decreases-loop-place
decreases-loop-place l =
    length (walk (length l.initial.image.text_cells.items + length l.initial.image.data_cells.items)
    l.initial.image.text_links.items l.initial.image.data_links.items l.next)
