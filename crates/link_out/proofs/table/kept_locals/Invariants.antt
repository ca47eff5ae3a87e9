use Rattle.std.proofs.Common.{◌≡◌, ◌+◌, ◌≤◌, ◌++◌, drop}
use Rattle.std.specs.Prelude.{vec_len, vec_capacity}
use Rattle.link_session.specs.{Labelled.objects, Starts.no_starts}
use Rattle.link_out.specs.internal.Rows.{rows_from, kept_count}
use Rattle.link_out.proofs.table.kept_locals.Given as goal

-- the rows so far, and those of the objects that are left; there is room for these
abbrev pub invariant-loop-entry : goal.invariant-loop-entry
invariant-loop-entry l = record {
  rows : rows_from l.bases l.keep no_starts (objects l.entries)
      ≡ l.rows.items ++ rows_from l.bases l.keep l.starts (objects (drop l.entry-index l.entries));
  len : kept_count l.keep (objects l.entries)
      ≡ vec_len l.rows + kept_count l.keep (objects (drop l.entry-index l.entries));
  space : l.room ≤ vec_capacity l.rows;
}
