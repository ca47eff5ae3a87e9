use Rattle.std.proofs.Common.{ap, sym, ◌∙◌}
use Rattle.command_words.specs.ScriptAnswers.{Progress}
use Rattle.link_session.specs.Undo.{Kept}
use Rattle.v7tools.proofs.{EventLemmas.passed_on, SessionRunLemmas.no_memory}
use Rattle.v7tools.proofs.session.command.answer_script.Goals as goal

pub returns-in_err-script-clause-run : goal.returns-in_err-script-clause-run
returns-in_err-script-clause-run g c =
    let fault = c.in_err-script.field-0.0 in
    let r = c.from_residual-in_err-script.result in
    no_memory g.W.Write.contents c.args.setting.now.options.now c.args.forced.now
    (g.R.Read.remaining c.args.reader) (g.O.FileSystem.history c.args.file_system.now) c.args.answers.now fault r
    c.in_err-script.ensures.err (passed_on r fault c.from_residual-in_err-script.ensures.1)

pub returns-clause-run : goal.returns-clause-run
returns-clause-run g c =
    let history = g.O.FileSystem.history in
    let same = ap (λ (p : Progress _). g.R.Read.remaining p.wire.device) c.in_ok-script.ensures.ok
    ∙ ap g.R.Read.remaining c.new.ensures.device in
    let forced = ap (λ (k : Kept). k.forced) c.in_ok-session.ensures.kept in
    rw (sym forced, sym same) c.answer_lines.ensures.run
