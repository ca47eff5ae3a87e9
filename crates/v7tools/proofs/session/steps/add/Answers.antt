use Rattle.std.proofs.{lemmas.Result.IfOk-from_err, Common.{Ok, ◌∙◌, ap, refl}}
use Rattle.std.specs.Prelude.{string_bytes}
use Rattle.link_session.specs.Undo.{Kept}
use Rattle.v7tools.specs.{declared.session.commands.Step.TheVariants.Done, Answers.add_step, FaultTexts.cli_text}
use Rattle.aout_core.proofs.PutsLemmas.{writes_broke_off}
use Rattle.v7tools.proofs.StepLemmas.{written_whole, added_by, not_added_by, refused_as, refused_verdict, label_is, worked_before}
use Rattle.v7tools.proofs.StepLemmas.{worked_after}
use Rattle.v7tools.proofs.session.steps.add.Goals as goal

pub returns-in_err-put_line-in-Ok-clause-step : goal.returns-in_err-put_line-in-Ok-clause-step
returns-in_err-put_line-in-Ok-clause-step g c =
    let old = c.args.session.now in
    let new = c.add_file.new.session in
    let path = string_bytes c.args.path in
    let (object, accepted) = c.in-Ok.ensures.value in
    let working = worked_before c.args.wire.now c.add_file.new.wire c.args.path c.in-Ok.ensures.latched c.in-Ok.ensures.device in
    let r = c.from_residual.result in
    let label = c.as_bytes.ensures.value ∙ c.last_label.ensures ∙ label_is old new _ accepted.adds in
    let told = writes_broke_off {r = r} c.from_residual.ensures.0 (rw label at c.in_err-put_line-in-Ok.ensures) in (
      add_step old.entries path (Ok new.entries),
      added_by g.R.Read.remaining c.args.wire.now c.add_file.new.wire old new path object working
          (worked_after c.add_file.new.wire c.args.path c.in-Ok.ensures.device) accepted,
      (_, accepted.adds),
      record {
        kept = refl;
        verdict = IfOk-from_err r _ c.from_residual.ensures.0;
        answer = told;
      },
    )

pub returns-in_ok-put_line-in-Ok-clause-step : goal.returns-in_ok-put_line-in-Ok-clause-step
returns-in_ok-put_line-in-Ok-clause-step g c =
    let old = c.args.session.now in
    let new = c.add_file.new.session in
    let path = string_bytes c.args.path in
    let (object, accepted) = c.in-Ok.ensures.value in
    let working = worked_before c.args.wire.now c.add_file.new.wire c.args.path c.in-Ok.ensures.latched c.in-Ok.ensures.device in
    let label = c.as_bytes.ensures.value ∙ c.last_label.ensures ∙ label_is old new _ accepted.adds in
    let told = rw label at c.in_ok-put_line-in-Ok.ensures in (
      add_step old.entries path (Ok new.entries),
      added_by g.R.Read.remaining c.args.wire.now c.add_file.new.wire old new path object working
          (worked_after c.add_file.new.wire c.args.path c.in-Ok.ensures.device) accepted,
      (_, accepted.adds),
      record { kept = refl; verdict = refl; answer = written_whole Done told },
    )

pub returns-in-Err-clause-step : goal.returns-in-Err-clause-step
returns-in-Err-clause-step g c =
    let old = c.args.session.now in
    let new = c.add_file.new.session in
    let fault = c.in-Err.fault in
    let (unchanged, by) = not_added_by g.R.Read.remaining c.args.wire.now c.add_file.new.wire old c.args.path fault
    c.in-Err.ensures.latched c.in-Err.ensures.device new c.in-Err.ensures.value in (
      refused_as old.entries (cli_text fault),
      by,
      unchanged,
      record {
        kept = ap (λ (k : Kept). k.entries) unchanged;
        verdict = refused_verdict c.refuse.result c.refuse.ensures.step;
        answer = c.refuse.ensures.written;
      },
    )
