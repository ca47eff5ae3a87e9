use Rattle.std.proofs.{lemmas.Result.IfOk-from_err, Common.{refl, rules}}
use Rattle.aout_core.proofs.PutsLemmas.{writes_broke_off}
use Rattle.v7tools.specs.declared.session.commands.Step.TheVariants.{Refused}
use Rattle.v7tools.proofs.StepLemmas.{written_whole, takes_last, takes_none}
use Rattle.v7tools.proofs.session.steps.withdraw.Goals as goal

pub returns-in_err-put_line-in-Some-clause-step : goal.returns-in_err-put_line-in-Some-clause-step
returns-in_err-put_line-in-Some-clause-step g c =
    let r = c.from_residual.result in
    let told = writes_broke_off {r = r} c.from_residual.ensures.0 (rw c.as_bytes.ensures.value at c.in_err-put_line-in-Some.ensures) in
    takes_last _ _ _ c.in-Some.ensures.last (record { kept = refl; verdict = IfOk-from_err r _ c.from_residual.ensures.0; answer = told })

pub returns-in-Some-clause-step : goal.returns-in-Some-clause-step
returns-in-Some-clause-step g c =
    let told = rw c.as_bytes.ensures.value at c.in_ok-put_line-in-Some.ensures in
    takes_last _ _ _ c.in-Some.ensures.last (record { kept = refl; verdict = refl; answer = written_whole _ told })

pub returns-in_err-put_line-in-None-clause-step : goal.returns-in_err-put_line-in-None-clause-step
returns-in_err-put_line-in-None-clause-step g c =
    let r = c.from_residual-in_err-put_line-in-None.result in
    let told = writes_broke_off {r = r} c.from_residual-in_err-put_line-in-None.ensures.0 c.in_err-put_line-in-None.ensures in
    takes_none c.args.session.now c.withdraw.new.self (search rules) (search rules)
    (record { kept = search rules; verdict = IfOk-from_err r _ c.from_residual-in_err-put_line-in-None.ensures.0; answer = told })

pub returns-clause-step : goal.returns-clause-step
returns-clause-step g c =
    let told = c.in_ok-put_line-in-None.ensures in
    takes_none c.args.session.now c.withdraw.new.self (search rules) (search rules)
    (record { kept = search rules; verdict = refl; answer = written_whole Refused told })
