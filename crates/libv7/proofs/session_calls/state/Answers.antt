use Rattle.std.proofs.Common.{sym, ◌∙◌, ap}
use Rattle.libv7.specs.{Causes.at, SessionAnswers.shown_in, SessionLeft.of_session}
use Rattle.libv7.proofs.session_calls.state.Goals as goal

pub returns-in_ok-state-in-Some-clause-ok : goal.returns-in_ok-state-in-Some-clause-ok
returns-in_ok-state-in-Some-clause-ok c =
    ap (of_session shown_in) c.in-Some.ensures.value
    ∙ ap (at 0) (ap shown_in (sym c.deref.ensures) ∙ c.in_ok-state-in-Some.ensures.ok)
