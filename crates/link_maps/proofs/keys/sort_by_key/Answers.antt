use Rattle.std.proofs.{Common.rules, lemmas.Fn.always_returns_same, lemmas.Result.on_ok_weaker}
use Rattle.std.proofs.Common.{◌≡◌}
use Rattle.link_maps.specs.internal.Keys.{key_of}
use Rattle.link_maps.proofs.keys.sort_by_key.Goals as goal

pub returns : goal.returns
returns c =
    let key = key_of c.args.symbols.now in
    let keys = always_returns_same _ (λ a r. r ≡ key a.0.now) _ (λ a r next called. search rules) in
    on_ok_weaker c.sort_by_key.result (λ sorted. record { sorted = sorted key keys; stable = c.sort_by_key.ensures.stable key keys })
    c.sort_by_key.ensures.sorted
