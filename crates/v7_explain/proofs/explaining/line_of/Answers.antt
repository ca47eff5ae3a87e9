use Rattle.std.proofs.Common.{inl, subst}
use Rattle.v7_explain.specs.{Runs.Explains, declared.explaining.Mode.TheVariants.Inventory}
use Rattle.v7_explain.proofs.explaining.line_of.Goals as goal

pub returns-in-None : goal.returns-in-None
returns-in-None g c =
    let old = g.O.FileSystem.history c.args.file_system.now in
    let new = g.O.FileSystem.history c.explain_at.new.file_system in
    inl (subst (λ path. Explains Inventory path old new c.explain_at.result) c.path.ensures c.explain_at.ensures)
