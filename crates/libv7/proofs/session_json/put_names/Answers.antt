use Rattle.std.proofs.Common.{append_assoc}
use Rattle.libv7.proofs.session_json.put_names.Goals as goal

pub returns : goal.returns
returns c = λ uncut.
    let e3 = c.put_multiples.ensures uncut in
    let e2 = c.put.ensures e3.0 in
    let e1 = c.put_externals.ensures e2.0 in (e1.0, rw (e3.1, e2.1, e1.1, c.multiples.ensures) (simp append_assoc))
