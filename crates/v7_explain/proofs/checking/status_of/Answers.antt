use Rattle.std.proofs.Common.{Bool, ap, if◌then◌else◌, sym, ◌∙◌}
use Rattle.v7_explain.proofs.FoundLemmas.{sure_found}
use Rattle.v7_explain.proofs.checking.status_of.Goals as goal

pub returns-then-is_any_sure : goal.returns-then-is_any_sure
returns-then-is_any_sure c =
    ap (λ (b : Bool). if b then 1 else 0) (sym c.if-is_any_sure.true ∙ c.is_any_sure.ensures ∙ sure_found c.args.found.now)

pub returns-else-is_any_sure : goal.returns-else-is_any_sure
returns-else-is_any_sure c =
    ap (λ (b : Bool). if b then 1 else 0) (sym c.if-is_any_sure.false ∙ c.is_any_sure.ensures ∙ sure_found c.args.found.now)
