use Rattle.std.proofs.Common.{◌≡◌, ◌+◌, drop}
use Rattle.link_session.specs.Labelled.{objects}
use Rattle.link_out.specs.internal.Rows.{kept_count}
use Rattle.link_out.proofs.kept_symbols.count_locals.Given as goal

-- the count so far, and those of the objects that are left
abbrev pub invariant-loop-entry : goal.invariant-loop-entry
invariant-loop-entry l = kept_count l.keep (objects l.entries) ≡ l.count + kept_count l.keep (objects (drop l.entry-index l.entries))
