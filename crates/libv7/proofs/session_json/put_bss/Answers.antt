use Rattle.std.proofs.Common.{refl, append_assoc}
use Rattle.libv7.proofs.session_json.put_bss.Goals as goal

pub returns : goal.returns
returns c = λ uncut.
    let e2 = c.put.ensures uncut in
    let e1 = c.put_valued.ensures e2.0 in (e1.0, rw (e2.1, e1.1, append_assoc, c.from.ensures) refl)
