use Rattle.aout_core.specs.Refusals.{device_fault}
use Rattle.std.proofs.{lemmas.Result.IfOk-from_err, Common.{◌≡◌, ℕ, Ok, Err, None, refl}}
use Rattle.link_session.specs.Labelled.{objects}
use Rattle.link_out.specs.function.Link.{link}
use Rattle.command_words.specs.Scripts.{to_link}
use Rattle.v7tools.specs.declared.fault.CliFault.TheVariants.{WriteFailed}
use Rattle.v7tools.proofs.{EventLemmas.passed_on, LineRunLemmas.answered_from, LineRunLemmas.refused_link, LineRunLemmas.stored_link}
use Rattle.v7tools.proofs.{StepLemmas.only_fault, StepLemmas.refused_by, StepLemmas.refused_with}
use Rattle.v7tools.proofs.session.command.answer_link.Goals as goal

pub returns-in_err-linked-clause-run : goal.returns-in_err-linked-clause-run
returns-in_err-linked-clause-run g c =
    let s = c.args.session.now in
    let o = c.args.setting.now.options.now in
    let r = c.from_residual.result in
    let is_err = c.from_residual.ensures.0 in
    refused_link g.W.Write.contents o c.args.path.now s r c.args.answers.now c.make_link.new.answers (g.O.FileSystem.history c.args.file_system.now)
    (refused_by g.W.Write.contents (link s.forced (objects s.entries) o) c.args.answers.now c.make_link.new.answers
    (Err c.in_err-linked.field-0.0) r refl is_err c.in_err-linked.ensures.link)
    (IfOk-from_err r (λ (status : ℕ). status ≡ 1) is_err)
    (only_fault r c.in_err-linked.field-0.0 (WriteFailed device_fault)
    (passed_on r c.in_err-linked.field-0.0 c.from_residual.ensures.1) c.in_err-linked.ensures.write_failed)

pub returns-in_err-status-in-Some-clause-run : goal.returns-in_err-status-in-Some-clause-run
returns-in_err-status-in-Some-clause-run g c =
    let s = c.args.session.now in
    let o = c.args.setting.now.options.now in
    let (is, same) = rw c.in-Some.is at c.in_ok-linked.ensures.link in
    let old = g.O.FileSystem.history c.args.file_system.now in
    let new = g.O.FileSystem.history c.store-stored.new.self in
    let fault = c.in_err-status-in-Some.field-0.0 in
    let said = c.in_err-status-in-Some.ensures in
    let told =
    stored_link g.W.Write.contents o c.args.path.now s (Err fault) c.make_link.new.answers c.link_answer.new.answers old new
    c.in-Some.linked c.store-stored.result is c.store-stored.ensures tt said.write_failed said.written.fault said.written.bytes in
    rw (passed_on c.from_residual-in_err-status-in-Some.result fault c.from_residual-in_err-status-in-Some.ensures.1)
    (answered_from g.W.Write.contents o (to_link c.args.path.now) s s old new (Err fault) c.args.answers.now
    c.make_link.new.answers c.link_answer.new.answers same told)

pub returns-in_ok-status-in-Some-clause-run : goal.returns-in_ok-status-in-Some-clause-run
returns-in_ok-status-in-Some-clause-run g c =
    let s = c.args.session.now in
    let o = c.args.setting.now.options.now in
    let (is, same) = rw c.in-Some.is at c.in_ok-linked.ensures.link in
    let old = g.O.FileSystem.history c.args.file_system.now in
    let new = g.O.FileSystem.history c.store-stored.new.self in
    let status = c.in_ok-status-in-Some.status in
    let said = c.in_ok-status-in-Some.ensures in
    let told =
    stored_link g.W.Write.contents o c.args.path.now s (Ok status) c.make_link.new.answers c.link_answer.new.answers old new
    c.in-Some.linked c.store-stored.result is c.store-stored.ensures said.status tt said.written.fault said.written.bytes in
    rw c.new.ensures
    (answered_from g.W.Write.contents o (to_link c.args.path.now) s s old new (Ok status) c.args.answers.now
    c.make_link.new.answers c.link_answer.new.answers same told)

pub returns-in-None-clause-run : goal.returns-in-None-clause-run
returns-in-None-clause-run g c =
    let s = c.args.session.now in
    let o = c.args.setting.now.options.now in
    rw c.new-in-None.ensures
    (refused_link g.W.Write.contents o c.args.path.now s (Ok 1) c.args.answers.now c.make_link.new.answers
    (g.O.FileSystem.history c.args.file_system.now)
    (refused_with g.W.Write.contents (link s.forced (objects s.entries) o) c.args.answers.now c.make_link.new.answers
    None 1 (rw c.in-None.is at c.in_ok-linked.ensures.link)) refl tt)
