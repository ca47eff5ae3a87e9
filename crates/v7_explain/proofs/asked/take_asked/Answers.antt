use Rattle.std.proofs.Common.{rules, ◌≡◌, ◌-◌, ◌∙◌, drop, length, map, refl, string_bytes, take, true}
use Rattle.v7_explain.specs.internal.Asked.{asks_of_map}
use Rattle.v7_explain.proofs.AskedLemmas.{argument_missing, argument_taken_at}
use Rattle.v7_explain.proofs.asked.take_asked.Goals as goal

pub loop-alloc-preserved : goal.loop-alloc-preserved
loop-alloc-preserved c =
    let rest = c.loop-alloc.rest.now in
    let asks : asks_of_map (map string_bytes rest) ≡ true = search rules in
    c.loop-alloc.invariant
    ∙ argument_taken_at rest (take (length rest - 2) (drop 2 rest)) c.in-len2-up.len_at_least refl asks

pub returns-in_default : goal.returns-in_default
returns-in_default c = c.loop-alloc.invariant ∙ argument_missing c.loop-alloc.rest.now c.in_default.len_below (search rules)
