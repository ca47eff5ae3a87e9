use Rattle.std.proofs.{Common.{◌∙◌, ◌∷◌, ◌++◌, ap, sym, arith, rules}, lemmas.Str.Pattern.split_parts}
use Rattle.v7_from_gnu.specs.Calls.{after_slash}
use Rattle.v7_from_gnu.proofs.SlashLemmas.{no_slash, slash_passed}
use Rattle.v7_from_gnu.proofs.arguments.after_slash.Goals as goal

pub loop-rest-preserved : goal.loop-rest-preserved
loop-rest-preserved c =
    let l = c.loop-rest in
    let front = c.in-Some.field-0-0.now in
    let rest = c.in-Some.rest.now in
    let cut = rw c.in-Some.is at (split_parts 47 l.name.now c.split_once.result c.split_once.ensures.cases (omega arith)) in
    (l.invariant.0 ∙ ap after_slash cut.0 ∙ slash_passed (front ++ 47 ∷ rest) front rest cut.1, search rules)

pub returns : goal.returns
returns c =
    let l = c.loop-rest in
    let none = rw c.in_default.is at (split_parts 47 l.name.now c.split_once.result c.split_once.ensures.cases (omega arith)) in
    sym (l.invariant.0 ∙ no_slash l.name.now l.name.now none)
