use Rattle.std.proofs.Common.{rules, ◌≡◌, ◌∙◌, false}
use Rattle.host.proofs.answer.give.Goals as goal

pub returns : goal.returns
returns g c =
    record {
      written = search rules;
      reported = λ answer is holds.
          let works : c.is_err-is_failed.result ≡ false = search rules in
          let said = c.put_errors.ensures.said answer (c.answer_in-found.ensures ∙ is) works in
          search rules;
      ends = search rules;
    }
