use Rattle.std.proofs.Common.{◌≡◌, ◌+◌, ◌≤◌, ◌++◌, drop}
use Rattle.std.specs.Prelude.{vec_len, vec_capacity}
use Rattle.link_out.specs.internal.Rows.{rows_in, count_in}
use Rattle.link_out.proofs.table.put_locals_of.Given as goal

-- the rows so far, and those of the entries that are left; there is room for these
abbrev pub invariant-loop-symbol : goal.invariant-loop-symbol
invariant-loop-symbol l = record {
  rows : l.initial.rows.items ++ rows_in l.keep l.moves l.symbols
      ≡ l.rows.items ++ rows_in l.keep l.moves (drop l.symbol-index l.symbols);
  len : vec_len l.initial.rows + count_in l.keep l.symbols ≡ vec_len l.rows + count_in l.keep (drop l.symbol-index l.symbols);
  capacity : vec_capacity l.rows ≡ vec_capacity l.initial.rows;
}
