use Rattle.std.proofs.Common.{rules, ◌≡◌, map, Some}
use Rattle.std.specs.Prelude.{string_bytes, Ok}
use Rattle.host.specs.{Answers.shown_in, Programs.DoesWords}
use Rattle.host.proofs.ShownLemmas.{is_shown}
use Rattle.v7_object.specs.{Runs.IsMaking, Runs.making_asked}
use Rattle.v7_object.proofs.program.answer.Goals as goal

pub returns-in_ok-shown_answer-in-Some : goal.returns-in_ok-shown_answer-in-Some
returns-in_ok-shown_answer-in-Some g c =
    let words = map string_bytes c.args.words.now in
    let before = g.O.FileSystem.history c.args.file_system.now in
    let answer = c.in_ok-shown_answer-in-Some.field-0 in
    let asked : shown_in words ≡ Some c.in-Some.shown = search rules in
    is_shown (shown_in words) c.in-Some.shown before answer
    (DoesWords IsMaking (making_asked words) before before (Ok answer)) asked c.in_ok-shown_answer-in-Some.ensures
