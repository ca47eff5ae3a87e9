use Rattle.std.proofs.Common.{rules, ◌≡◌, false, None, Ok, subst}
use Rattle.aout_core.specs.Strip.{stripped}
use Rattle.link_session.specs.Labelled.{objects}
use Rattle.link_out.specs.{Outcomes.outcome_of, function.Link.link, function.Link.link_of}
use Rattle.tool_options.specs.{Choices.options_of, declared.options.Keep.TheVariants.Nothing}
use Rattle.v7_origin.proofs.linking.compare.Goals as goal

pub returns-then-is_equal : goal.returns-then-is_equal
returns-then-is_equal c is =
    let session = c.args.session.now in
    let options = options_of c.args.layout false Nothing None in
    let made : link_of session options ≡ Ok (outcome_of c.in-Some.linked) = search rules in
    let same : stripped c.in-Some.linked.file ≡ stripped c.args.program.now = search rules in
    (outcome_of c.in-Some.linked, subst (λ forced. link forced (objects session.entries) options ≡ Ok (outcome_of c.in-Some.linked)) c.requires made, same)
