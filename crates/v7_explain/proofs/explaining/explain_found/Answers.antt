use Rattle.std.proofs.Common.{inl, subst, sym}
use Rattle.v7_explain.specs.Runs.{Explains, ExplainsAt}
use Rattle.v7_explain.proofs.explaining.explain_found.Goals as goal

pub returns-in-Inventory : goal.returns-in-Inventory
returns-in-Inventory g c =
    let old = g.O.FileSystem.history c.args.file_system.now in
    let new = g.O.FileSystem.history c.line_of.new.file_system in
    subst (λ mode. ExplainsAt mode (g.P.Explainable.path c.args.found.now) old new c.line_of.result) (sym c.in-Inventory.is)
    c.line_of.ensures

pub returns-in_default : goal.returns-in_default
returns-in_default g c =
    let old = g.O.FileSystem.history c.args.file_system.now in
    let new = g.O.FileSystem.history c.explain_at.new.file_system in
    inl (subst (λ path. Explains c.args.mode path old new c.explain_at.result) c.path.ensures c.explain_at.ensures)
