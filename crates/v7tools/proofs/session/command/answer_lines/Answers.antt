use Rattle.std.proofs.Common.{arith, rules, ◌≡◌, ◌+◌, Some, None, Ok, ap, subst, refl, ◌∙◌}
use Rattle.command_words.specs.{ScriptAnswers.Answer, ScriptAnswers.Progress, ScriptAnswers.lines_of}
use Rattle.v7tools.proofs.{SessionRunLemmas.{all_run, broke_off, run_up_to, runs_more, runs_none}, EventLemmas.passed_on}
use Rattle.v7tools.proofs.ScriptCallLemmas.{gave_end, gave_line}
use Rattle.v7tools.proofs.session.command.answer_lines.Goals as goal

pub loop-init : goal.loop-init
loop-init g c =
    let script = c.args.script.now in
    let none : script.line_count ≡ 0 = ap (λ (p : Progress _). p.line_count) c.requires.fresh in
    record {
      count = none;
      bound = omega (arith, none);
      passed = λ h. h;
      running =
          rw c.new-status.ensures
          (runs_none g.R.Read.remaining g.W.Write.contents c.args.setting.now.options.now c.args.session.now script
          (g.O.FileSystem.history c.args.file_system.now) c.args.answers.now none
          (ap (λ (p : Progress _). p.settled) c.requires.fresh));
    }

pub returns-in_err-line-clause-run : goal.returns-in_err-line-clause-run
returns-in_err-line-clause-run g c =
    let (answer, is, gives) = c.in_err-line.ensures.next in
    let r = c.from_residual.result in
    run_up_to c.loop.invariant.running gives c.args.session.now.forced c.requires.empty
    (ap (λ (p : Progress _). p.held) c.requires.fresh) r c.in_err-line.field-0.0 is (passed_on r _ c.from_residual.ensures.1)

pub returns-in_default-clause-run : goal.returns-in_default-clause-run
returns-in_default-clause-run g c =
    let (answer, is, gives) = c.in_ok-line.ensures.next in
    let none : c.in_ok-line.field-0 ≡ None = search rules in
    all_run c.loop.invariant.running gives c.args.session.now.forced c.requires.empty
    (ap (λ (p : Progress _). p.held) c.requires.fresh) (Ok c.loop.status) (gave_end answer is none) refl

pub returns-in_err-answered-clause-run : goal.returns-in_err-answered-clause-run
returns-in_err-answered-clause-run g c =
    let (answer, is, gives) = c.in_ok-line.ensures.next in
    let it = c.in-Some.line in
    let some : c.in_ok-line.field-0 ≡ Some it = search rules in
    let r = c.from_residual-in_err-answered.result in
    broke_off c.loop.invariant.running gives c.args.session.now.forced c.requires.empty
    (ap (λ (p : Progress _). p.held) c.requires.fresh) r it c.in_err-answered.field-0.0 (gave_line answer it is some)
    c.in_err-answered.ensures.run c.answer_line.ensures.latched (passed_on r _ c.from_residual-in_err-answered.ensures.1)

pub loop-preserved : goal.loop-preserved
loop-preserved g c =
    let (answer, is, gives) = c.in_ok-line.ensures.next in
    let it = c.in-Some.line in
    let some : c.in_ok-line.field-0 ≡ Some it = search rules in
    let line = gave_line answer it is some in
    let count = subst (λ (a : Answer). c.next_line.new.self.line_count ≡ c.loop.script.line_count + lines_of a) line gives.count in
    record {
      count = count ∙ ap (λ k. k + 1) c.loop.invariant.count;
      bound = gives.bound;
      passed = λ h. c.answer_line.ensures.passed;
      running = rw c.max-status.ensures (runs_more c.loop.invariant.running gives it line c.in_ok-answered.ensures.run
          c.answer_line.ensures.latched);
    }

pub returns-in_err-line-clause-passed : goal.returns-in_err-line-clause-passed
returns-in_err-line-clause-passed g c = c.loop.invariant.passed

pub returns-in_default-clause-passed : goal.returns-in_default-clause-passed
returns-in_default-clause-passed g c = c.loop.invariant.passed
