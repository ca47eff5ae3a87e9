use Rattle.std.proofs.Common.{◌≡◌, [], ◌∷◌, Some, None, rules, refl, sym, ap, ◌∙◌, string_bytes, inl, inr}
use Rattle.std.specs.{Option.option_map, Result.result_ok}
use Rattle.host.specs.Events.{opened}
use Rattle.host.specs.Sources.{reading}
use Rattle.host.proofs.EventLemmas.{asked_after}
use Rattle.v7tools.specs.Answers.{absent, adding, step}
use Rattle.v7tools.proofs.{EventLemmas.opened_at, LineRunLemmas.added_closed, StepLemmas.refused_verdict}
use Rattle.v7tools.proofs.session.command.add_at.Goals as goal

pub returns-clause-step : goal.returns-clause-step
returns-clause-step g c =
    let history = g.O.FileSystem.history in
    let remaining = g.O.Source.Read.remaining in
    let s = c.args.session.now in
    let path = string_bytes c.args.path in
    let from = c.new-wire.result in
    let to = c.add-taken.new.wire in
    let at : c.as_str.result.now ≡ path = search rules in
    let came : option_map remaining (result_ok c.open.result) ≡ Some (remaining from.device) =
    ap (λ r. option_map remaining (result_ok r)) c.in-Ok.is ∙ ap (λ d. Some (remaining d)) (sym c.new-wire.ensures.device) in
    let opens = opened_at (history c.args.file_system.now) (history c.open.new.self) _ _ _ _ c.open.ensures at came in
    let (did, over, adds, does) = c.add-taken.ensures.step in (
      reading path (Some (remaining from.device)) to.has_failed,
      did,
      asked_after _ _ (history c.close.new.self) _ _ opens c.close.ensures,
      inr (remaining from.device, to.has_failed, refl, added_closed remaining from to s.forced s.entries path did over),
      adds,
      does,
    )

pub returns-in_default-clause-step : goal.returns-in_default-clause-step
returns-in_default-clause-step g c =
    let history = g.O.FileSystem.history in
    let s = c.args.session.now in
    let path = string_bytes c.args.path in
    let at : c.as_str.result.now ≡ path = search rules in
    let told = c.refuse.ensures in
    let none : result_ok c.open.result ≡ None = search rules in (
      opened path None ∷ [],
      step s.forced c.args.setting.now.options.now s.entries (adding path absent),
      opened_at (history c.args.file_system.now) (history c.open.new.self) _ _ _ _ c.open.ensures at (ap (option_map g.O.Source.Read.remaining) none),
      inl (refl, refl),
      refl,
      record { kept = refl; verdict = refused_verdict c.refuse.result told.step; answer = told.written },
    )
