use Rattle.std.proofs.Common.{◌≡◌, ◌+◌, ◌*◌, ◌≤◌, length}
use Rattle.link_out.specs.internal.InOrder.{commons_size_in}
use Rattle.link_out.proofs.layout.commons_total.Given as goal

-- the space so far, and that of the names that are left
abbrev pub invariant-loop-state : goal.invariant-loop-state
invariant-loop-state l = record {
  total : commons_size_in l.initial.state-iterator ≡ l.total + commons_size_in l.state-iterator;
  small : l.total + length l.state-iterator * 65536 ≤ 65535 * 65536;
}
