use Rattle.std.proofs.Common.{refl, append_assoc}
use Rattle.libv7.proofs.session_json.put_target.Goals as goal

pub returns-in-External : goal.returns-in-External
returns-in-External c = λ uncut.
    let e2 = c.put_name.ensures uncut in
    let e1 = c.put-in-External.ensures e2.0 in
    (e1.0, rw (e2.1, e1.1, c.name_at.ensures, append_assoc, c.in-External.is) refl)
