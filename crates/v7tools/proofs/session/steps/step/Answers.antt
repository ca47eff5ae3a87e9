use Rattle.std.proofs.{lemmas.Result.IfOk-from_err, Common.{◌≡◌, None, Ok, Err, refl}}
use Rattle.std.specs.Prelude.{string_bytes}
use Rattle.link_session.specs.{Edits.last_of, Labelled.objects}
use Rattle.link_out.specs.function.Link.{link}
use Rattle.v7tools.specs.{declared.session.commands.Step.Step, declared.session.commands.Step.TheVariants.{Done, Refused}}
use Rattle.v7tools.specs.Answers.{step, adding, absent, listing_externals, listing_undefined, anything_else, withdraw_step}
use Rattle.aout_core.proofs.PutsLemmas.{writes_broke_off}
use Rattle.v7tools.proofs.StepLemmas.{written_whole, refused_verdict, added_over, links_not, links_to, refused_by, refused_with}
use Rattle.v7tools.proofs.session.steps.step.Goals as goal

pub returns-in_err-put_externals-in-Externals-clause-step : goal.returns-in_err-put_externals-in-Externals-clause-step
returns-in_err-put_externals-in-Externals-clause-step g c =
    let s = c.args.session.now in
    let did = step s.forced c.args.options.now s.entries listing_externals in
    let r = c.from_residual.result in
    let told = writes_broke_off {r = r} c.from_residual.ensures.0 c.in_err-put_externals-in-Externals.ensures in
    rw c.in-Externals.is (did, refl, refl, record { kept = refl; verdict = IfOk-from_err r _ c.from_residual.ensures.0; answer = told })

pub returns-in_ok-put_externals-in-Externals-clause-step : goal.returns-in_ok-put_externals-in-Externals-clause-step
returns-in_ok-put_externals-in-Externals-clause-step g c =
    let s = c.args.session.now in
    let told = c.in_ok-put_externals-in-Externals.ensures in
    rw c.in-Externals.is (
      step s.forced c.args.options.now s.entries listing_externals,
      refl,
      refl,
      record { kept = refl; verdict = refl; answer = written_whole Done told },
    )

pub returns-in_err-put_undefined-in-Undefined-clause-step : goal.returns-in_err-put_undefined-in-Undefined-clause-step
returns-in_err-put_undefined-in-Undefined-clause-step g c =
    let s = c.args.session.now in
    let did = step s.forced c.args.options.now s.entries listing_undefined in
    let r = c.from_residual-in_err-put_undefined-in-Undefined.result in
    let told =
    writes_broke_off {r = r} c.from_residual-in_err-put_undefined-in-Undefined.ensures.0 c.in_err-put_undefined-in-Undefined.ensures in
    rw c.in-Undefined.is (
      did,
      refl,
      refl,
      record { kept = refl; verdict = IfOk-from_err r _ c.from_residual-in_err-put_undefined-in-Undefined.ensures.0; answer = told },
    )

pub returns-in_ok-put_undefined-in-Undefined-clause-step : goal.returns-in_ok-put_undefined-in-Undefined-clause-step
returns-in_ok-put_undefined-in-Undefined-clause-step g c =
    let s = c.args.session.now in
    let told = c.in_ok-put_undefined-in-Undefined.ensures in
    rw c.in-Undefined.is (
      step s.forced c.args.options.now s.entries listing_undefined,
      refl,
      refl,
      record { kept = refl; verdict = refl; answer = written_whole Done told },
    )

pub returns-in_err-put_line-in-Bad-clause-step : goal.returns-in_err-put_line-in-Bad-clause-step
returns-in_err-put_line-in-Bad-clause-step g c =
    let s = c.args.session.now in
    let did = step s.forced c.args.options.now s.entries anything_else in
    let r = c.from_residual-in_err-put_line-in-Bad.result in
    let told = writes_broke_off {r = r} c.from_residual-in_err-put_line-in-Bad.ensures.0 c.in_err-put_line-in-Bad.ensures in
    rw c.in-Bad.is (
      did,
      refl,
      refl,
      record { kept = refl; verdict = IfOk-from_err r _ c.from_residual-in_err-put_line-in-Bad.ensures.0; answer = told },
    )

pub returns-in_ok-put_line-in-Bad-clause-step : goal.returns-in_ok-put_line-in-Bad-clause-step
returns-in_ok-put_line-in-Bad-clause-step g c =
    let s = c.args.session.now in
    let told = c.in_ok-put_line-in-Bad.ensures in
    rw c.in-Bad.is (
      step s.forced c.args.options.now s.entries anything_else,
      refl,
      refl,
      record { kept = refl; verdict = refl; answer = written_whole Refused told },
    )

pub returns-in-Some-clause-step : goal.returns-in-Some-clause-step
returns-in-Some-clause-step g c =
    let s = c.args.session.now in
    let (did, over, adds, does) = c.add.ensures.step in
    rw (c.in-Add.is, c.in-Some.is) (
      did,
      added_over g.R.Read.remaining c.in-Some.wire c.add.new.wire s.forced s.entries (string_bytes c.in-Add.path) did over,
      adds,
      does,
    )

pub returns-in-None-clause-step : goal.returns-in-None-clause-step
returns-in-None-clause-step g c =
    let s = c.args.session.now in
    let told = c.refuse.ensures in
    rw (c.in-Add.is, c.in-None.is) (
      step s.forced c.args.options.now s.entries (adding (string_bytes c.in-Add.path) absent),
      refl,
      refl,
      record { kept = refl; verdict = refused_verdict c.refuse.result told.step; answer = told.written },
    )

pub returns-in-Some-clause-write_failed : goal.returns-in-Some-clause-write_failed
returns-in-Some-clause-write_failed g c = c.add.ensures.write_failed

pub returns-in-Some-clause-latched : goal.returns-in-Some-clause-latched
returns-in-Some-clause-latched g c = c.add.ensures.latched

pub returns-in-Some-clause-object : goal.returns-in-Some-clause-object
returns-in-Some-clause-object g c = λ _. c.add.ensures.object

pub returns-in-Withdraw-clause-write_failed : goal.returns-in-Withdraw-clause-write_failed
returns-in-Withdraw-clause-write_failed g c = c.withdraw.ensures.write_failed

pub returns-in-Withdraw-clause-latched : goal.returns-in-Withdraw-clause-latched
returns-in-Withdraw-clause-latched g c = c.withdraw.ensures.latched

pub returns-in-Withdraw-clause-object : goal.returns-in-Withdraw-clause-object
returns-in-Withdraw-clause-object g c = λ _. c.withdraw.ensures.object

pub returns-in-None-clause-write_failed : goal.returns-in-None-clause-write_failed
returns-in-None-clause-write_failed g c = c.refuse.ensures.write_failed

pub returns-in-None-clause-latched : goal.returns-in-None-clause-latched
returns-in-None-clause-latched g c = c.refuse.ensures.written.latched

pub returns-in-Withdraw-clause-step : goal.returns-in-Withdraw-clause-step
returns-in-Withdraw-clause-step g c =
    let s = c.args.session.now in
    let (changes, does) = c.withdraw.ensures.step in
    rw c.in-Withdraw.is (withdraw_step s.entries (last_of s.entries), refl, changes, does)

pub returns-in_err-put_externals-in-Externals-clause-latched : goal.returns-in_err-put_externals-in-Externals-clause-latched
returns-in_err-put_externals-in-Externals-clause-latched g c = c.in_err-put_externals-in-Externals.ensures.latched

pub returns-in_ok-put_externals-in-Externals-clause-latched : goal.returns-in_ok-put_externals-in-Externals-clause-latched
returns-in_ok-put_externals-in-Externals-clause-latched g c = c.in_ok-put_externals-in-Externals.ensures.latched

pub returns-in_err-put_undefined-in-Undefined-clause-latched : goal.returns-in_err-put_undefined-in-Undefined-clause-latched
returns-in_err-put_undefined-in-Undefined-clause-latched g c = c.in_err-put_undefined-in-Undefined.ensures.latched

pub returns-in_ok-put_undefined-in-Undefined-clause-latched : goal.returns-in_ok-put_undefined-in-Undefined-clause-latched
returns-in_ok-put_undefined-in-Undefined-clause-latched g c = c.in_ok-put_undefined-in-Undefined.ensures.latched

pub returns-in_err-put_line-in-Bad-clause-latched : goal.returns-in_err-put_line-in-Bad-clause-latched
returns-in_err-put_line-in-Bad-clause-latched g c = c.in_err-put_line-in-Bad.ensures.latched

pub returns-in_ok-put_line-in-Bad-clause-latched : goal.returns-in_ok-put_line-in-Bad-clause-latched
returns-in_ok-put_line-in-Bad-clause-latched g c = c.in_ok-put_line-in-Bad.ensures.latched

pub returns-in_err-linked-in-Link-clause-step : goal.returns-in_err-linked-in-Link-clause-step
returns-in_err-linked-in-Link-clause-step g c =
    let s = c.args.session.now in
    let answer = link s.forced (objects s.entries) c.args.options.now in
    let r = c.from_residual-in_err-linked-in-Link.result in
    rw c.in-Link.is (links_not g.W.Write.contents answer c.args.answers.now c.make_link.new.answers s r
    (IfOk-from_err r (λ (step : Step). step ≡ Refused) c.from_residual-in_err-linked-in-Link.ensures.0)
    (refused_by g.W.Write.contents answer c.args.answers.now c.make_link.new.answers (Err c.in_err-linked-in-Link.field-0.0)
    r refl c.from_residual-in_err-linked-in-Link.ensures.0 c.in_err-linked-in-Link.ensures.link))

pub returns-in-Some-2-clause-step : goal.returns-in-Some-2-clause-step
returns-in-Some-2-clause-step g c =
    let s = c.args.session.now in
    rw c.in-Link.is (links_to g.W.Write.contents (link s.forced (objects s.entries) c.args.options.now) c.args.answers.now
    c.make_link.new.answers s c.in-Some-2.linked (rw c.in-Some-2.is at c.in_ok-linked-in-Link.ensures.link))

pub returns-in-None-2-clause-step : goal.returns-in-None-2-clause-step
returns-in-None-2-clause-step g c =
    let s = c.args.session.now in
    let answer = link s.forced (objects s.entries) c.args.options.now in
    rw c.in-Link.is (links_not g.W.Write.contents answer c.args.answers.now c.make_link.new.answers s (Ok Refused) refl
    (refused_with g.W.Write.contents answer c.args.answers.now c.make_link.new.answers None Refused
    (rw c.in-None-2.is at c.in_ok-linked-in-Link.ensures.link)))
