use Rattle.std.proofs.Common.{◌≡◌, ◌-◌, ◌≤◌}
use Rattle.std.specs.Prelude.{vec_len, vec_capacity}
use Rattle.link_session.specs.internal.Threads.{grown_heads}
use Rattle.link_session.proofs.chain.grow_heads.Given as goal

-- those that are left make the same whole; there is room for them
abbrev pub invariant-loop-heads : goal.invariant-loop-heads
invariant-loop-heads l = record {
  heads : grown_heads l.count l.initial.heads.items ≡ grown_heads l.count l.heads.items;
  space : l.count ≤ vec_capacity l.heads;
}

abbrev pub decreases-loop-heads : goal.decreases-loop-heads
decreases-loop-heads l = l.count - vec_len l.heads
