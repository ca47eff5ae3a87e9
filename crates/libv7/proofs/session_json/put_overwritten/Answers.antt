use Rattle.std.proofs.Common.{refl, append_assoc}
use Rattle.libv7.proofs.session_json.put_overwritten.Goals as goal

pub returns-clause-marks : goal.returns-clause-marks
returns-clause-marks c = λ uncut.
    let e3 = c.put-2.ensures uncut in
    let e2 = c.put_marks.ensures.marks e3.0 in
    let e1 = c.put.ensures e2.0 in (e1.0, rw (e3.1, e2.1, e1.1, append_assoc, append_assoc) refl)
