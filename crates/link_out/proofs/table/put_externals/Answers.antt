use Rattle.std.proofs.Common.{◌≡◌, [], ◌++◌, ◌⊎◌, inl, inr, length, rules}
use Rattle.std.specs.Slice.Iter.{iter_rest}
use Rattle.link_session.specs.Undo.{image_of}
use Rattle.link_out.specs.internal.Rows.{rows_with}
use Rattle.link_out.proofs.RowLemmas.{rows_put}
use Rattle.link_out.proofs.table.put_externals.Goals as goal

pub returns : goal.returns
returns c =
    let left = c.loop-name.name-iterator in
    let none_left : (left.a ≡ []) ⊎ (length (iter_rest left.b) ≡ 0) =
    elim c.in-None.ensures.steps [
      | inl w ↦ inl w.1.0
      | inr w ↦ inr w.1.0
    ] in
    rows_put left.a (iter_rest left.b) (c.args.rows.now.items ++ rows_with (image_of c.args.session.now).externals
    c.args.finals.now) c.loop-name.rows.items none_left (search rules)
