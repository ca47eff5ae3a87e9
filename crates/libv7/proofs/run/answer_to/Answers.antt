use Rattle.std.proofs.Common.{sym, ◌∙◌}
use Rattle.libv7.proofs.RunLemmas.{run_answer}
use Rattle.libv7.proofs.run.answer_to.Goals as goal

pub returns-else-has_bit : goal.returns-else-has_bit
returns-else-has_bit c =
    run_answer c.args.request.now c.args.size c.in_ok-asked.asked c.run_parts.result c.in_ok-asked.ensures
    (sym c.has_bit.ensures ∙ c.if-has_bit.false) c.run_parts.ensures.ok c.run_parts.ensures.err c.run_parts.ensures.memory
