use Rattle.std.proofs.Common.{◌≡◌, ◌-◌, ◌∙◌, Some, length, sym, ap, rules}
use Rattle.std.specs.Prelude.{slice_get}
use Rattle.v7tools.specs.internal.StepParts.{label_of}
use Rattle.v7tools.proofs.StepLemmas.{last_of-slice_get}
use Rattle.v7tools.proofs.session.steps.last_label.Goals as goal

pub returns-in-Some : goal.returns-in-Some
returns-in-Some c =
    let es = c.args.session.now.entries in
    let last : slice_get es (length es - 1) ≡ Some c.in-Some.entry.now = search rules in
    c.label.ensures ∙ ap label_of (sym (last_of-slice_get es _ last))
