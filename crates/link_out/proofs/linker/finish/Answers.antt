use Rattle.std.proofs.Common.{◌≡◌, rules}
use Rattle.std.specs.Prelude.{Err}
use Rattle.aout_core.specs.Refusals.{refused}
use Rattle.link_out.specs.{declared.linked.Linked.Linked, declared.linked.LinkFault.TheVariants.Memory}
use Rattle.link_out.proofs.FinishLemmas.{ends_refused, ends_without_memory, ends_linked, ends_object}
use Rattle.link_out.proofs.linker.finish.Goals as goal

pub returns-in_err-locals-clause-value : goal.returns-in_err-locals-clause-value
returns-in_err-locals-clause-value c =
    let same : c.from_residual.result ≡ Err c.in_err-locals.field-0.0 = search rules in
    ends_refused c.of-plan.result c.args.session.now c.args.options.now c.of-plan.ensures.session c.of-plan.ensures.options
    c.from_residual.result c.in_err-locals.field-0.0 same c.in_err-locals.ensures.refused

pub returns-in_err-finals-clause-value : goal.returns-in_err-finals-clause-value
returns-in_err-finals-clause-value c =
    let same : c.from_residual-in_err-finals.result ≡ Err (Memory refused) = search rules in
    ends_without_memory c.of-plan.result c.args.session.now c.args.options.now c.of-plan.ensures.session c.of-plan.ensures.options
    c.from_residual-in_err-finals.result c.in_ok-locals.locals same c.in_ok-locals.ensures.passed

pub returns-in_err-words-clause-value : goal.returns-in_err-words-clause-value
returns-in_err-words-clause-value c =
    let same : c.from_residual-in_err-words.result ≡ Err (Memory refused) = search rules in
    ends_without_memory c.of-plan.result c.args.session.now c.args.options.now c.of-plan.ensures.session c.of-plan.ensures.options
    c.from_residual-in_err-words.result c.in_ok-locals.locals same c.in_ok-locals.ensures.passed

pub returns-in_err-relocs-clause-value : goal.returns-in_err-relocs-clause-value
returns-in_err-relocs-clause-value c =
    let same : c.from_residual-in_err-relocs.result ≡ Err (Memory refused) = search rules in
    ends_without_memory c.of-plan.result c.args.session.now c.args.options.now c.of-plan.ensures.session c.of-plan.ensures.options
    c.from_residual-in_err-relocs.result c.in_ok-locals.locals same c.in_ok-locals.ensures.passed

pub returns-in_err-symbols-clause-value : goal.returns-in_err-symbols-clause-value
returns-in_err-symbols-clause-value c =
    let same : c.from_residual-in_err-symbols.result ≡ Err (Memory refused) = search rules in
    ends_without_memory c.of-plan.result c.args.session.now c.args.options.now c.of-plan.ensures.session c.of-plan.ensures.options
    c.from_residual-in_err-symbols.result c.in_ok-locals.locals same c.in_ok-locals.ensures.passed

pub returns-in_err-report-clause-value : goal.returns-in_err-report-clause-value
returns-in_err-report-clause-value c =
    let same : c.from_residual-in_err-report.result ≡ Err (Memory refused) = search rules in
    ends_without_memory c.of-plan.result c.args.session.now c.args.options.now c.of-plan.ensures.session c.of-plan.ensures.options
    c.from_residual-in_err-report.result c.in_ok-locals.locals same c.in_ok-locals.ensures.passed

pub returns-clause-value : goal.returns-clause-value
returns-clause-value c =
    let linked : Linked = record { file = c.file_of-file.result; report = c.in_ok-report.report } in
    ends_linked c.of-plan.result c.args.session.now c.args.options.now c.of-plan.ensures.session c.of-plan.ensures.options
    linked c.in_ok-locals.locals c.in_ok-locals.ensures.passed c.file_of-file.ensures c.in_ok-report.ensures

pub returns-clause-object : goal.returns-clause-object
returns-clause-object c =
    let linked : Linked = record { file = c.file_of-file.result; report = c.in_ok-report.report } in
    ends_object c.of-plan.result c.args.session.now c.args.options.now c.of-plan.ensures.session c.of-plan.ensures.options
    linked c.file_of-file.ensures
