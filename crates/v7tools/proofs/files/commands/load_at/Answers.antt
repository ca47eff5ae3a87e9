use Rattle.std.proofs.Common.{◌≡◌, rules, string_bytes, ap, ◌∙◌, sym, Some}
use Rattle.std.specs.{Option.option_map, Result.result_ok}
use Rattle.v7tools.proofs.{EventLemmas.opened_at, FileRunLemmas.load_closed}
use Rattle.v7tools.proofs.files.commands.load_at.Goals as goal

pub returns-in-Ok : goal.returns-in-Ok
returns-in-Ok g c =
    let history = g.O.FileSystem.history in
    let remaining = g.O.Source.Read.remaining in
    let at : c.as_str.result.now ≡ string_bytes c.args.path = search rules in
    let came : option_map remaining (result_ok c.open.result) ≡ Some (remaining c.new-wire.result.device) =
    ap (λ r. option_map remaining (result_ok r)) c.in-Ok.is ∙ ap (λ d. Some (remaining d)) (sym c.new-wire.ensures.device) in
    let opens = opened_at (history c.args.file_system.now) (history c.open.new.self) _ _ _ _ c.open.ensures at came in
    load_closed _ _ (history c.close.new.self) c.args.path _ _ opens c.load-loaded.new.wire.has_failed c.load-loaded.result
    c.close.ensures c.load-loaded.ensures.path c.load-loaded.ensures.device c.load-loaded.ensures.decodes
