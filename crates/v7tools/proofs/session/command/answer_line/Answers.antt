use Rattle.std.proofs.Common.{◌≡◌, sym, rules}
use Rattle.std.specs.Prelude.{string_bytes}
use Rattle.command_words.specs.{Scripts.{to_add, to_link}, ScriptAnswers.asked_by}
use Rattle.v7tools.proofs.{EventLemmas.passed_on, LineRunLemmas.{addition_answered, addition_cut_short, line_answered, line_cut_short, line_passed}}
use Rattle.v7tools.proofs.session.command.answer_line.Goals as goal

pub returns-in_ok-status-in-Link-clause-run : goal.returns-in_ok-status-in-Link-clause-run
returns-in_ok-status-in-Link-clause-run g c =
    let at : c.as_str.result.now ≡ string_bytes c.in-Link.path = search rules in
    let history = g.O.FileSystem.history in
    rw (c.in-Link.is, sym at)
    (line_passed g.W.Write.contents c.args.setting.now.options.now (to_link c.as_str.result.now) c.args.session.now
    c.args.session.now (history c.args.file_system.now) (history c.answer_link.new.file_system) c.in_ok-status-in-Link.status
    c.pass_on.result c.args.answers.now c.answer_link.new.answers c.pass_on.new.answers c.in_ok-status-in-Link.ensures.run
    c.pass_on.ensures.run)

pub returns-in_err-taken-in_default-clause-run : goal.returns-in_err-taken-in_default-clause-run
returns-in_err-taken-in_default-clause-run g c =
    let fault = c.in_err-taken-in_default.field-0.0 in
    let told = c.in_err-taken-in_default.ensures in
    let r = c.from_residual-in_err-taken-in_default.result in
    line_cut_short g.W.Write.contents g.O.Source.Read.remaining c.args.setting.now.options.now c.args.session.now
    c.step.new.session c.args.answers.now c.step.new.answers (g.O.FileSystem.history c.args.file_system.now) c.args.line
    c.command_of-command.result c.command_of-command.ensures fault r told.step told.write_failed
    (passed_on r fault c.from_residual-in_err-taken-in_default.ensures.1)

pub returns-in_ok-taken-in_default-clause-run : goal.returns-in_ok-taken-in_default-clause-run
returns-in_ok-taken-in_default-clause-run g c =
    let history = g.O.FileSystem.history c.args.file_system.now in
    let contents = g.W.Write.contents in
    let o = c.args.setting.now.options.now in
    let told =
    line_answered contents g.O.Source.Read.remaining o c.args.session.now c.step.new.session c.args.answers.now
    c.step.new.answers history c.args.line c.command_of-command.result c.command_of-command.ensures c.in_ok-taken-in_default.taken
    c.status_of-in_default.result c.in_ok-taken-in_default.ensures.step c.status_of-in_default.ensures in
    line_passed contents o (asked_by c.args.line) c.args.session.now c.step.new.session history history c.status_of-in_default.result
    c.pass_on-in_default.result c.args.answers.now c.step.new.answers c.pass_on-in_default.new.answers told c.pass_on-in_default.ensures.run

pub returns-in_err-taken-in-Add-clause-run : goal.returns-in_err-taken-in-Add-clause-run
returns-in_err-taken-in-Add-clause-run g c =
    let history = g.O.FileSystem.history in
    let fault = c.in_err-taken-in-Add.field-0.0 in
    let told = c.in_err-taken-in-Add.ensures in
    let r = c.from_residual-in_err-taken-in-Add.result in
    rw c.in-Add.is
    (addition_cut_short g.W.Write.contents c.args.setting.now.options.now (string_bytes c.in-Add.path) c.args.session.now
    c.add_at.new.session (history c.args.file_system.now) (history c.add_at.new.file_system) c.args.answers.now c.add_at.new.answers fault r
    told.step told.write_failed (passed_on r fault c.from_residual-in_err-taken-in-Add.ensures.1))

pub returns-in_ok-taken-in-Add-clause-run : goal.returns-in_ok-taken-in-Add-clause-run
returns-in_ok-taken-in-Add-clause-run g c =
    let history = g.O.FileSystem.history in
    let contents = g.W.Write.contents in
    let o = c.args.setting.now.options.now in
    let path = string_bytes c.in-Add.path in
    let told =
    addition_answered contents o path c.args.session.now c.add_at.new.session (history c.args.file_system.now) (history c.add_at.new.file_system)
    c.args.answers.now c.add_at.new.answers c.in_ok-taken-in-Add.taken c.status_of.result c.in_ok-taken-in-Add.ensures.step
    c.status_of.ensures in
    rw c.in-Add.is
    (line_passed contents o (to_add path) c.args.session.now c.add_at.new.session (history c.args.file_system.now)
    (history c.add_at.new.file_system) c.status_of.result c.pass_on-in-Add.result c.args.answers.now c.add_at.new.answers
    c.pass_on-in-Add.new.answers told c.pass_on-in-Add.ensures.run)
