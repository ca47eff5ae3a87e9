use Rattle.std.proofs.Common.{◌∙◌}
use Rattle.v7tools.proofs.AdditionLemmas.{addition_made, addition_refused, addition_unread, addition_unchecked, read_object}
use Rattle.v7tools.proofs.EventLemmas.{passed_on}
use Rattle.v7tools.proofs.link.additions.add_file.Goals as goal

pub returns-in_err-path-clause-value : goal.returns-in_err-path-clause-value
returns-in_err-path-clause-value g c =
    let e = c.in_err-path.field-0.0 in
    rw (passed_on _ e c.from_residual.ensures.1) (addition_unread _ _ _ _ e c.in_err-path.ensures.path c.in_err-path.ensures.decodes)

pub returns-in_err-path-2-clause-value : goal.returns-in_err-path-2-clause-value
returns-in_err-path-2-clause-value g c =
    let e = c.in_err-path-2.field-0.0 in
    let read = c.in_ok-path in
    rw (passed_on _ e c.from_residual-in_err-path-2.ensures.1)
    (addition_unchecked _ _ _ _ _ _ e read.ensures.path read.ensures.decodes c.in_err-path-2.ensures)

pub returns-in_err-add-clause-value : goal.returns-in_err-add-clause-value
returns-in_err-add-clause-value g c =
    let read = c.in_ok-path in
    let checked = c.in_ok-path-2 in
    let found = read_object _ _ _ _ _ _ read.ensures.decodes checked.ensures in
    rw (passed_on _ _ c.from_residual-in_err-add.ensures.1) (addition_refused _ _ _ _ _ _ _ found
    (c.in_err-add.ensures.handed_back.0 ∙ checked.ensures.0 ∙ read.ensures.path) c.in_err-add.ensures.cause
    c.in_err-add.ensures.unchanged)

pub returns-clause-value : goal.returns-clause-value
returns-clause-value g c =
    let read = c.in_ok-path in
    let checked = c.in_ok-path-2 in
    let found = read_object _ _ _ _ _ _ read.ensures.decodes checked.ensures in
    addition_made _ _ _ _ _ _ found (checked.ensures.0 ∙ read.ensures.path) c.in_ok-add.ensures.fits c.in_ok-add.ensures.added
