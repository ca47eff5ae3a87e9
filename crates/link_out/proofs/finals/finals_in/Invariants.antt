use Rattle.std.proofs.Common.{◌≡◌, ◌+◌, ◌*◌, ◌≤◌, ◌++◌, length}
use Rattle.std.specs.Prelude.{vec_len, vec_capacity}
use Rattle.link_out.specs.internal.InOrder.{finals_from}
use Rattle.link_out.proofs.finals.finals_in.Given as goal

-- what becomes of the names so far, and of those that are left; there is room for these
abbrev pub invariant-loop-name : goal.invariant-loop-name
invariant-loop-name l = record {
  finals : finals_from l.options l.bases 0 l.initial.name-iterator
      ≡ l.finals.items ++ finals_from l.options l.bases l.offset l.name-iterator;
  small : l.offset + length l.name-iterator * 65536 ≤ 65535 * 65536;
  space : vec_len l.finals + length l.name-iterator ≤ vec_capacity l.finals;
}
