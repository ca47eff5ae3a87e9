use Rattle.std.proofs.Common.{◌<◌, ◌++◌, length, List, Bor, rules, ap, ◌∙◌}
use Rattle.link_maps.specs.{Records.by_name, Uses.Use, Groups.groups_of}
use Rattle.link_maps.proofs.RecordLemmas.{first_name, groups_more}
use Rattle.link_maps.proofs.groups.by_name.Goals as goal

pub loop-rest-preserved : goal.loop-rest-preserved
loop-rest-preserved c =
    let rest = c.loop-rest.rest.now in
    let front = c.split_at.result.0 in
    let back = c.split_at.result.1.now in
    let some : 0 < length rest = search rules in
    ap (λ (gs : List (Bor (List Use))). groups_of gs ++ by_name back) c.in_ok-push.ensures.items
    ∙ groups_more c.loop-rest.groups.items front rest back
    (first_name rest front.now back c.uses_of_name.result some c.uses_of_name.ensures.value c.split_at.ensures.front c.split_at.ensures.back)
    ∙ c.loop-rest.invariant
