use Rattle.std.proofs.Common.{◌≡◌, ◌+◌, ◌≤◌, ◌++◌, length}
use Rattle.std.specs.{Prelude.{vec_len, vec_capacity}, Slice.Iter.iter_rest}
use Rattle.link_out.specs.internal.Rows.{rows_with}
use Rattle.link_out.proofs.table.put_externals.Given as goal

-- the rows so far, and those of the externals that are left; there is room for these
abbrev pub invariant-loop-name : goal.invariant-loop-name
invariant-loop-name l = record {
  rows : l.initial.rows.items ++ rows_with l.initial.name-iterator.a (iter_rest l.initial.name-iterator.b)
      ≡ l.rows.items ++ rows_with l.name-iterator.a (iter_rest l.name-iterator.b);
  space : vec_len l.rows + length l.name-iterator.a ≤ vec_capacity l.rows;
}
