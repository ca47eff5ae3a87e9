use Rattle.std.proofs.Common.{rules, ◌≡◌, Err, refl, string_bytes}
use Rattle.v7tools.proofs.{EventLemmas.{passed_on, stored_at}, LinkRunLemmas.{no_link, not_opened, stores_link}}
use Rattle.v7tools.proofs.link.command.link_files.Goals as goal

pub returns-in_err-inputs-clause-run : goal.returns-in_err-inputs-clause-run
returns-in_err-inputs-clause-run g c =
    not_opened g.O.Source.Read.remaining g.W.Write.contents c.args.forced.now c.args.setting.now.options.now c.args.out
    c.args.files.items _ c.from_residual.result _ _ _ c.in_err-inputs.field-0.0
    c.in_err-inputs.ensures (passed_on c.from_residual.result c.in_err-inputs.field-0.0 c.from_residual.ensures.1) refl

pub returns-in-Err-clause-run : goal.returns-in-Err-clause-run
returns-in-Err-clause-run g c =
    no_link g.O.Source.Read.remaining g.W.Write.contents c.args.forced.now c.args.setting.now.options.now c.args.out
    c.args.files.items _ (Err c.in-Err.fault) _ _ _ _ c.in_ok-inputs.inputs.items c.in-Err.fault _
    c.in_ok-inputs.ensures c.in-Err.ensures.value c.in-Err.ensures.device c.close_stopped.ensures refl refl

pub returns-clause-run : goal.returns-clause-run
returns-clause-run g c =
    let at : c.as_str.result.now ≡ string_bytes c.args.out = search rules in
    let kept = stored_at (g.O.FileSystem.history c.open_all.new.file_system) (g.O.FileSystem.history c.store-stored.new.self) _ _
    c.in-Ok.made.0.file c.store-stored.result c.store-stored.ensures at in
    stores_link g.O.Source.Read.remaining g.W.Write.contents c.args.forced.now c.args.setting.now.options.now c.args.out
    c.args.files.items _ c.report_stored.result _ _ _ _ c.in_ok-inputs.inputs.items c.in-Ok.made.0
    c.store-stored.result
    c.in_ok-inputs.ensures c.in-Ok.ensures.value kept c.report_stored.ensures.run
