use Rattle.std.proofs.Common.{None, refl}
use Rattle.link_session.specs.Labelled.{objects}
use Rattle.link_out.specs.{function.Link.link}
use Rattle.aout_core.proofs.PutsLemmas.{writes_broke_off}
use Rattle.v7tools.proofs.StepLemmas.{not_linked, refuses, written_with}
use Rattle.v7tools.proofs.session.steps.make_link.Goals as goal

pub returns-in-Ok-clause-link : goal.returns-in-Ok-clause-link
returns-in-Ok-clause-link g c = (c.in-Ok.ensures.value, refl)

pub returns-in_err-put_fault-in-Err-clause-link : goal.returns-in_err-put_fault-in-Err-clause-link
returns-in_err-put_fault-in-Err-clause-link g c =
    let s = c.args.session.now in
    let answer = link s.forced (objects s.entries) c.args.options.now in
    let r = c.from_residual.result in
    let told = writes_broke_off {r = r} c.from_residual.ensures.0 c.in_err-put_fault-in-Err.ensures in
    not_linked _ _ _ _ r c.from_residual.ensures.0 (refuses _ _ _ _ _ _ r c.in-Err.ensures.value c.from.ensures told)

pub returns-in_ok-put_fault-in-Err-clause-link : goal.returns-in_ok-put_fault-in-Err-clause-link
returns-in_ok-put_fault-in-Err-clause-link g c =
    refuses _ _ _ _ c.in-Err.fault _ _ c.in-Err.ensures.value c.from.ensures (written_with None c.in_ok-put_fault-in-Err.ensures)
