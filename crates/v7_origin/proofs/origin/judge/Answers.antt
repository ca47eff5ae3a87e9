use Rattle.std.proofs.Common.{rules, refl, subst, inl, inr}
use Rattle.aout_core.specs.Refusals.{refused}
use Rattle.host.specs.declared.answer.Fault.TheVariants.{Memory}
use Rattle.v7_origin.specs.Runs.{Ends}
use Rattle.v7_origin.proofs.AnswerLemmas.{found_answer}
use Rattle.v7_origin.proofs.origin.judge.Goals as goal

pub returns-in_err-program : goal.returns-in_err-program
returns-in_err-program g c = inl (c.in_err-program.field-0.0, refl, c.in_err-program.ensures.err, search rules)

pub returns-in_err-text : goal.returns-in_err-text
returns-in_err-text g c = inl (Memory refused, refl, tt, search rules)

pub returns-in_err-answer : goal.returns-in_err-answer
returns-in_err-answer g c = inl (Memory refused, refl, tt, search rules)

pub returns : goal.returns
returns g c =
    let old = g.O.FileSystem.history c.args.file_system.now in
    let new = g.O.FileSystem.history c.answer_found.new.file_system in
    let is_whole = c.in_ok-text.field-0.is_whole in
    let program = c.in_ok-program.program in
    let answer = c.in_ok-answer.answer in
    inr (
      program,
      answer,
      c.in_ok-program.ensures.taken,
      c.in_ok-program.ensures.ok,
      found_answer c.args.given.now program c.args.sources.now _ is_whole answer c.has-2.ensures c.in_ok-text.ensures
          c.in_ok-answer.ensures.ends c.in_ok-answer.ensures.quiet c.in_ok-answer.ensures.errors,
      subst (λ out. Ends out program answer old new c.answer_found.result) c.value_of.ensures c.answer_found.ensures,
    )
