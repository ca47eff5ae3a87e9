use Rattle.std.proofs.Common.{Err, Ok, refl}
use Rattle.v7tools.specs.LinkAnswers.{inputs_of}
use Rattle.v7tools.proofs.AnswerLemmas.{linked_last, stopped}
use Rattle.v7tools.proofs.link.linking.ld_of_session.Goals as goal

pub returns-in-Err-take_inputs-clause-value : goal.returns-in-Err-take_inputs-clause-value
returns-in-Err-take_inputs-clause-value g c =
    stopped c.args.forced.now c.args.options.now (inputs_of g.R.Read.remaining c.args.inputs.items)
    c.in-Ok.session c.take_inputs.new.session c.in-Ok.ensures.kept c.in-Err-take_inputs.fault
    (Err c.in-Err-take_inputs.fault) c.in-Err-take_inputs.ensures.value refl

pub returns-in-Ok-link_inputs-clause-value : goal.returns-in-Ok-link_inputs-clause-value
returns-in-Ok-link_inputs-clause-value g c =
    linked_last c.args.forced.now c.args.options.now (inputs_of g.R.Read.remaining c.args.inputs.items)
    c.in-Ok.session c.take_inputs.new.session c.in-Ok.ensures.kept (Ok c.in-Ok-link_inputs.linked)
    c.in_default.ensures.forced c.in_default.ensures.value c.in-Ok-link_inputs.ensures.value

pub returns-in-Err-link_inputs-clause-value : goal.returns-in-Err-link_inputs-clause-value
returns-in-Err-link_inputs-clause-value g c =
    linked_last c.args.forced.now c.args.options.now (inputs_of g.R.Read.remaining c.args.inputs.items)
    c.in-Ok.session c.take_inputs.new.session c.in-Ok.ensures.kept (Err c.in-Err-link_inputs.fault)
    c.in_default.ensures.forced c.in_default.ensures.value c.in-Err-link_inputs.ensures.value
