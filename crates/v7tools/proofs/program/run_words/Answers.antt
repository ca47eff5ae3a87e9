use Rattle.std.proofs.Common.{inl, inr, refl}
use Rattle.host.proofs.EventLemmas.{nothing_asked}
use Rattle.v7tools.proofs.EventLemmas.{passed_on}
use Rattle.v7tools.proofs.program.run_words.Goals as goal

pub returns-clause-run : goal.returns-clause-run
returns-clause-run g c =
    let asked = c.in_ok-call.ensures in
    inr (record {
      call = c.in_ok-call.call;
      asks = record { whole = asked.whole; asked = asked.asked; dashes = asked.dashes };
      run = c.run_call.ensures.run;
    })

pub returns-in_err-call-clause-run : goal.returns-in_err-call-clause-run
returns-in_err-call-clause-run g c =
    let refused = c.in_err-call.ensures in
    let is = passed_on c.from_residual.result c.in_err-call.field-0.0 c.from_residual.ensures.1 in
    inl (record {
      fault = c.in_err-call.field-0.0;
      of_words = refused.none;
      asked = nothing_asked _;
      refuses = record { refusal = is; silent = refl };
    })
